-- What the licensees' library tells of a table that is charged in three ways (02, M-113).
--   ChargesTold t h q out   out are the numbers of an answer that the promise of `charges` allows
--   ChargesToldUnique       and so no others
use Rattle.std.specs.Prelude.{List, ◌≡◌, ℕ, Result}
use Rattle.charges.specs.Figures.{answer_numbers}
use Rattle.charges.specs.Promise.{ChargeSays}
use Rattle.charges.specs.declared.Charged.{Charged}
use Rattle.demand.specs.declared.refusal.Refusal.{Refusal}

pub record ChargesTold (t h : List ℕ) (q : ℕ) (out : List ℕ) : Type 0 where
  pub answer : Result Charged Refusal
  pub says : ChargeSays t h q answer
  pub numbers : out ≡ answer_numbers answer

abbrev pub ChargesToldUnique : Type 0
ChargesToldUnique = (t h : List ℕ) (q : ℕ) (a b : List ℕ) → ChargesTold t h q a → ChargesTold t h q b → a ≡ b
