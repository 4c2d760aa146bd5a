-- What an accepted schedule says of a table's lengths: it and a sheet's no never contradict each other.
--   AcceptedPasses   a schedule that is accepted up to a span shows that no length up to it fails
--   AcceptedShort    so where the call accepts a schedule and the sheet of its table says no, the length that fails is above the span
use Rattle.std.specs.Prelude.{List, ◌≡◌, ℕ, ◌≤◌, ◌<◌, Result, Ok, None}
use Rattle.demand.specs.Demands.{Passes}
use Rattle.demand.specs.Rows.{Row, Positive, Valid}
use Rattle.demand.specs.declared.refusal.Refusal.{Refusal}
use Rattle.segments.specs.Given.{Who}
use Rattle.segments.specs.Promise.{JudgeSays}
use Rattle.segments.specs.Rules.{Accepted}
use Rattle.verdict.specs.Promise as verdict
use Rattle.verdict.specs.Promise.{VerdictSays}
use Rattle.verdict.specs.Promise.Word.{misses}
use Rattle.verdict.specs.declared.Answer as sheet

abbrev pub AcceptedPasses : Type 0
AcceptedPasses =
    (ts hs : List Row) → Valid ts → Positive hs → (σ : ℕ → Who) (L : ℕ) → Accepted ts hs σ L → (l : ℕ) → l ≤ L → Passes ts hs l

abbrev pub AcceptedShort : Type 0
AcceptedShort =
    (t h s : List ℕ) (L : ℕ) → JudgeSays t h s L (Ok None)
    → (v : Result sheet.Answer Refusal) → VerdictSays t h v → (verdict.figures v).word ≡ misses → L < (verdict.figures v).interval
