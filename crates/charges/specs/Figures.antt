-- An answer in words, a number and loads (02, M-113): what a line tells of a table.
--   exact_word e          == the word of the verdict's answer e
--   charge_word a, charge_load a   == the word and the load of the charge a, where there is one; of none the load is 0
--   charged_of c          == the figures of the exact verdict and the charges beside it
--   refused_of n          == those of a refusal: its number, and none in both other ways
--   figures r            == those of an answer; what does not apply is none or 0
--   numbers_of g          == the figures g as numbers, each word by its own; answer_numbers r are those of an answer
use Rattle.std.specs.Prelude.{List, [], ◌∷◌, ℕ, Result, Ok, Err, Option, Some, None}
use Rattle.charges.specs.declared.Charge.{Charge}
use Rattle.charges.specs.declared.Charge.TheVariants as charge
use Rattle.charges.specs.declared.Charged.{Charged}
use Rattle.charges.specs.declared.figures.Figures.{Figures}
use Rattle.charges.specs.declared.figures.Word.{Word}
use Rattle.charges.specs.declared.figures.Word.TheVariants as word
use Rattle.demand.specs.Numbered.{number_of}
use Rattle.demand.specs.declared.refusal.Refusal.{Refusal}
use Rattle.verdict.specs.Promise as verdict
use Rattle.verdict.specs.declared.Answer as sheet
use Rattle.verdict.specs.declared.Answer.TheVariants as exact

abbrev pub exact_word : Result sheet.Answer Refusal → Word
exact_word (Ok (exact.Fits load tested)) = word.Fits
exact_word (Ok (exact.Misses miss load)) = word.Misses
exact_word (Err e) = word.Refused

abbrev pub charge_word : Option Charge → Word
charge_word (Some (charge.Fits load)) = word.Fits
charge_word (Some (charge.Misses load)) = word.Misses
charge_word None = word.None

abbrev pub charge_load : Option Charge → ℕ
charge_load (Some (charge.Fits load)) = load
charge_load (Some (charge.Misses load)) = load
charge_load None = 0

abbrev pub charged_of : Charged → Figures
charged_of c = record {
  exact = exact_word c.exact;
  code = (verdict.figures c.exact).code;
  load = (verdict.figures c.exact).load;
  quantum = charge_word c.quantum;
  quantum_load = charge_load c.quantum;
  task = charge_word c.task;
  task_load = charge_load c.task;
}

abbrev pub refused_of : ℕ → Figures
refused_of n = record {
  exact = word.Refused;
  code = n;
  load = 0;
  quantum = word.None;
  quantum_load = 0;
  task = word.None;
  task_load = 0;
}

abbrev pub figures : Result Charged Refusal → Figures
figures (Ok c) = charged_of c
figures (Err e) = refused_of (number_of e)

abbrev pub word_number : Word → ℕ
word_number word.Fits = 0
word_number word.Misses = 1
word_number word.Refused = 2
word_number word.None = 3

abbrev pub numbers_of : Figures → List ℕ
numbers_of g =
    word_number g.exact ∷ g.code ∷ g.load ∷ word_number g.quantum ∷ g.quantum_load ∷ word_number g.task ∷ g.task_load ∷ []

abbrev pub answer_numbers : Result Charged Refusal → List ℕ
answer_numbers r = numbers_of (figures r)
