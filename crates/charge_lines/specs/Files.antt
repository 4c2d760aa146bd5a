-- The figures of a table file (02, M-113), from its bytes.
--   AnswerIn m t h q a   a is the answer to the table t, h in a file: where m says that a handler has a deadline 13, unless a refusal that
--                        comes first applies, else what the call on a table promises
--   FileAnswers bs q a   a is the answer for the table that the file bs says
--   FileCharged bs q g   g are the figures of the file bs with a quantum of q ticks: 19 before all, 12 where the file breaks the layout
--   OneCharge            a file has such figures and no other
use Rattle.std.specs.Prelude.{Bool, true, false, List, ◌⊎◌, ◌≡◌, ℕ, Result, Err}
use Rattle.charges.specs.Figures.{refused_of, figures}
use Rattle.charges.specs.Promise.{quantum_outside, ChargeSays}
use Rattle.charges.specs.declared.Charged.{Charged}
use Rattle.demand.specs.Numbered.{refusal_at}
use Rattle.demand.specs.declared.refusal.Refusal.{Refusal}
use Rattle.demand.specs.declared.refusal.Refusal.TheVariants.{FileMalformed, QuantumOutOfRange}
use Rattle.charges.specs.declared.figures.Figures.{Figures}
use Rattle.demand.specs.declared.table.Kind.TheVariants.{Task, Handler}
use Rattle.layout.specs.File.{Entry, FileSays, SaysNothing}
use Rattle.layout.specs.Refusals.{refusal_in}
use Rattle.layout.specs.Table.{list_of, misplaced}

unfoldable pub AnswerIn : Bool → List ℕ → List ℕ → ℕ → Result Charged Refusal → Type 0
AnswerIn true t h q a = a ≡ Err (refusal_at (refusal_in true t h))
AnswerIn false t h q a = ChargeSays t h q a

-- before all 19, then 12
unfoldable pub FileAnswers : List ℕ → ℕ → Result Charged Refusal → Type 0
FileAnswers bs q a =
    ((quantum_outside q ≡ true) × (a ≡ Err QuantumOutOfRange))
    ⊎ ((quantum_outside q ≡ false)
    × (((es : List Entry) × FileSays bs es × AnswerIn (misplaced es) (list_of Task es) (list_of Handler es) q a)
    ⊎ (SaysNothing bs × (a ≡ Err FileMalformed))))

-- the figures of a file that says the rows es
pub record Answered (es : List Entry) (q : ℕ) (g : Figures) : Type 0 where
  pub answer : Result Charged Refusal
  pub says : AnswerIn (misplaced es) (list_of Task es) (list_of Handler es) q answer
  pub told : g ≡ figures answer

abbrev pub FileTold : List ℕ → ℕ → Figures → Type 0
FileTold bs q g = ((es : List Entry) × FileSays bs es × Answered es q g) ⊎ (SaysNothing bs × (g ≡ refused_of 12))

unfoldable pub FileCharged : List ℕ → ℕ → Figures → Type 0
FileCharged bs q g = ((quantum_outside q ≡ true) × (g ≡ refused_of 19)) ⊎ ((quantum_outside q ≡ false) × FileTold bs q g)

abbrev pub OneCharge : Type 0
OneCharge = (bs : List ℕ) (q : ℕ) (f g : Figures) → FileCharged bs q f → FileCharged bs q g → f ≡ g
