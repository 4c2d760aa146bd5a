-- The promise allows one answer (01, "How much each statement must say").
--   TrimUnique   two answers that the promise allows are equal
use Rattle.std.specs.Prelude.{List, ◌≡◌, ℕ, Result}
use Rattle.demand.specs.declared.refusal.Refusal.{Refusal}
use Rattle.trim.specs.Promise.{TrimSays}
use Rattle.trim.specs.declared.Cut.{Cut}

abbrev pub TrimUnique : Type 0
TrimUnique = (t h : List ℕ) (i : ℕ) (r s : Result Cut Refusal) → TrimSays t h i r → TrimSays t h i s → r ≡ s
