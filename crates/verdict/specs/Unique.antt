-- The promise allows one answer (01, "How much each statement must say").
--   VerdictUnique   two answers that the promise allows are equal
use Rattle.std.specs.Prelude.{List, ◌≡◌, ℕ, Result}
use Rattle.demand.specs.declared.refusal.Refusal.{Refusal}
use Rattle.verdict.specs.Promise.{VerdictSays}
use Rattle.verdict.specs.declared.Answer.{Answer}

abbrev pub VerdictUnique : Type 0
VerdictUnique = (t h : List ℕ) (r s : Result Answer Refusal) → VerdictSays t h r → VerdictSays t h s → r ≡ s
