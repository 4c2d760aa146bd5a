-- What the licensees' library tells of a table that is trimmed (02, M-112).
--   TrimTold t h i out   out are the numbers of an answer that the promise of `trim` allows: the refusal's, old and new cost, 0 for none
--   TrimToldUnique       and so no others
use Rattle.std.specs.Prelude.{List, ◌≡◌, ℕ, Result}
use Rattle.demand.specs.declared.refusal.Refusal.{Refusal}
use Rattle.trim.specs.Promise.{answer_numbers, TrimSays}
use Rattle.trim.specs.declared.Cut.{Cut}

pub record TrimTold (t h : List ℕ) (i : ℕ) (out : List ℕ) : Type 0 where
  pub answer : Result Cut Refusal
  pub says : TrimSays t h i answer
  pub numbers : out ≡ answer_numbers answer

abbrev pub TrimToldUnique : Type 0
TrimToldUnique = (t h : List ℕ) (i : ℕ) (a b : List ℕ) → TrimTold t h i a → TrimTold t h i b → a ≡ b
