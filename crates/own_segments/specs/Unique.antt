-- The promise allows one answer (01, "How much each statement must say").
--   OwnUnique   two answers that the promise allows are equal, and so is what they leave in the list
use Rattle.demand.specs.declared.refusal.Refusal.{Refusal}
use Rattle.std.specs.Prelude.{List, ◌≡◌, ℕ, Result}
use Rattle.own_segments.specs.Promise.{OwnSays}
use Rattle.own_segments.specs.declared.Answer.{Answer}

abbrev pub OwnUnique : Type 0
OwnUnique =
    (t h : List ℕ) (L : ℕ) (old new new' : List ℕ) (r s : Result Answer Refusal) → OwnSays t h L old new r → OwnSays t h L old new' s
    → (r ≡ s) × (new ≡ new')
