-- What a load says (M-100), of the verdict's own figure.
--   LoadTells   on a readable table a load of one million or less is said exactly where W is at most H
use Rattle.std.specs.Prelude.{List, ◌≡◌, ℕ, ◌≤◌, Result}
use Rattle.demand.specs.Rows.{tasks_of, handlers_of}
use Rattle.demand.specs.declared.refusal.Refusal.{Refusal}
use Rattle.verdict.specs.Loads.{whole}
use Rattle.verdict.specs.Multiples.{common}
use Rattle.verdict.specs.Promise.{figures, verdict_refusal, VerdictSays}
use Rattle.verdict.specs.declared.Answer.{Answer}

unfoldable pub LoadTells : Type 0
LoadTells =
    (t h : List ℕ) (r : Result Answer Refusal)
    → VerdictSays t h r → verdict_refusal t h ≡ 0
    → ((figures r).load ≤ 1000000 → whole (tasks_of t) (handlers_of h) ≤ common (tasks_of t) (handlers_of h))
    × (whole (tasks_of t) (handlers_of h) ≤ common (tasks_of t) (handlers_of h) → (figures r).load ≤ 1000000)
