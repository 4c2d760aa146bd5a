-- What trimming a file gives (02, M-112), from bytes to bytes: its printed lines, and the new file behind them.
--   page_most                 == the bytes of a page
--   page_of lines file r      == the lines and the file behind them at the start of a page, and the refusal r
--   output_of lines file k    == that with the refusal whose number is k, none for 0
--   AnswerIn m t h i a       a is the answer for task i of the table t, h in a file: where m says that a handler has a deadline 13, unless
--                            a refusal that comes first applies, else what `trim` promises
--   FileAnswers bs i a       a is the answer for task i of the table that the file bs says; 12 before all
--   Comes bs es i a o        the answer a comes to the outcome o over the file bs, which says the rows es
--   OutcomeSays bs i o       o is the outcome of the file bs for task i: 12 before all where it breaks the layout
--   TrimmedSays bs i out     out is what is written of it
--   OneTrim                  a file has one such output and no other
use Rattle.std.specs.Prelude.{Bool, true, false, List, ◌++◌, ◌⊎◌, ◌≡◌, ℕ, length, replicate, Option, Some, None, Result, Ok, Err}
use Rattle.demand.specs.Numbered as refusal
use Rattle.demand.specs.Numbered.{refusal_at}
use Rattle.demand.specs.declared.refusal.Refusal.{Refusal}
use Rattle.demand.specs.declared.refusal.Refusal.TheVariants.{FileMalformed}
use Rattle.demand.specs.declared.table.Kind.TheVariants.{Task, Handler}
use Rattle.layout.specs.File.{Entry, FileSays, SaysNothing}
use Rattle.layout.specs.Refusals.{refusal_in}
use Rattle.layout.specs.Table.{list_of, misplaced}
use Rattle.page.specs.Laid.{laid}
use Rattle.recost.specs.Rewritten.{Rewritten}
use Rattle.text.specs.Reasons.{reason}
use Rattle.trim.specs.Promise.{TrimSays}
use Rattle.trim.specs.declared.Cut.{Cut}
use Rattle.trim_file.specs.Printed.{Outcome, lines_of, file_of, number_of}
use Rattle.trim_file.specs.Printed.Outcome.{refused, none, cost}
use Rattle.trim_file.specs.declared.Output.{Output}

abbrev pub page_most : ℕ
page_most = 4352

unfoldable pub page_of : List ℕ → List ℕ → Option Refusal → Output
page_of lines file r = record {
  bytes = laid (replicate page_most 0) 0 (lines ++ file);
  lines = length lines;
  len = length (lines ++ file);
  refusal = r;
}

abbrev pub output_of : List ℕ → List ℕ → ℕ → Output
output_of lines file k = page_of lines file (reason k)

unfoldable pub AnswerIn : Bool → List ℕ → List ℕ → ℕ → Result Cut Refusal → Type 0
AnswerIn true t h i a = a ≡ Err (refusal_at (refusal_in true t h))
AnswerIn false t h i a = TrimSays t h i a

unfoldable pub FileAnswers : List ℕ → ℕ → Result Cut Refusal → Type 0
FileAnswers bs i a =
    ((es : List Entry) × FileSays bs es × AnswerIn (misplaced es) (list_of Task es) (list_of Handler es) i a)
    ⊎ (SaysNothing bs × (a ≡ Err FileMalformed))

-- a cost that fits, lowered or not, comes with the file rewritten for it
abbrev pub CutComes : List ℕ → List Entry → ℕ → ℕ → Option ℕ → Outcome → Type 0
CutComes bs es i old None o = o ≡ none old
CutComes bs es i old (Some new) o = (file : List ℕ) × Rewritten bs es i new file × (o ≡ cost old new file)

unfoldable pub Comes : List ℕ → List Entry → ℕ → Result Cut Refusal → Outcome → Type 0
Comes bs es i (Ok cut) o = CutComes bs es i cut.old cut.new o
Comes bs es i (Err e) o = o ≡ refused (refusal.number_of e)

pub record Answered (bs : List ℕ) (es : List Entry) (i : ℕ) (o : Outcome) : Type 0 where
  pub answer : Result Cut Refusal
  pub says : AnswerIn (misplaced es) (list_of Task es) (list_of Handler es) i answer
  pub comes : Comes bs es i answer o

abbrev pub OutcomeSays : List ℕ → ℕ → Outcome → Type 0
OutcomeSays bs i o = ((es : List Entry) × FileSays bs es × Answered bs es i o) ⊎ (SaysNothing bs × (o ≡ refused 12))

pub record TrimmedSays (bs : List ℕ) (i : ℕ) (out : Output) : Type 0 where
  pub outcome : Outcome
  pub says : OutcomeSays bs i outcome
  pub written : out ≡ output_of (lines_of i outcome) (file_of outcome) (number_of outcome)

abbrev pub OneTrim : Type 0
OneTrim = (bs : List ℕ) (i : ℕ) (a b : Output) → TrimmedSays bs i a → TrimmedSays bs i b → a ≡ b
