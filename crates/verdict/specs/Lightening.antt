-- A yes holds under less (00, demand 3), said of the verdict's own promise.
--   YesUnderLess   if the promise allows Fits on a table, it allows nothing but Fits on every readable lighter one
use Rattle.std.specs.Prelude.{List, ◌≡◌, ℕ, Result}
use Rattle.demand.specs.Lighter.{Lighter}
use Rattle.demand.specs.Rows.{tasks_of, handlers_of}
use Rattle.demand.specs.declared.refusal.Refusal.{Refusal}
use Rattle.verdict.specs.Promise.{figures, verdict_refusal, VerdictSays}
use Rattle.verdict.specs.Promise.Word.{fits}
use Rattle.verdict.specs.declared.Answer.{Answer}

unfoldable pub YesUnderLess : Type 0
YesUnderLess =
    (t h t' h' : List ℕ) (r r' : Result Answer Refusal)
    → VerdictSays t h r → (figures r).word ≡ fits
    → Lighter (tasks_of t') (tasks_of t) → Lighter (handlers_of h') (handlers_of h) → verdict_refusal t' h' ≡ 0
    → VerdictSays t' h' r' → (figures r').word ≡ fits
