-- The promise allows one answer (01, "How much each statement must say").
--   JudgeUnique   two answers that the promise allows are equal
use Rattle.std.specs.Prelude.{List, ◌≡◌, ℕ, Result, Option}
use Rattle.demand.specs.declared.refusal.Refusal.{Refusal}
use Rattle.segments.specs.Promise.{JudgeSays}

abbrev pub JudgeUnique : Type 0
JudgeUnique = (t h s : List ℕ) (L : ℕ) (q r : Result (Option ℕ) Refusal) → JudgeSays t h s L q → JudgeSays t h s L r → q ≡ r
