-- A schedule that is accepted and a sheet's no never contradict each other.
use mathlib.Core.List.{List}
use mathlib.Core.Logic.{◌⊎◌, inl, inr}
use mathlib.Core.Path.{◌≡◌, subst}
use native.Mathlib.Omega.{arith}
use Prim.Native.Nat.{ℕ, ◌≤◌, ◌<◌}
use Rattle.std.specs.Prelude.{Result, Ok, None}
use Rattle.demand.specs.Rows.{tasks_of, handlers_of}
use Rattle.demand.proofs.Divide.{le-or-lt}
use Rattle.demand.specs.declared.refusal.Refusal.{Refusal}
use Rattle.segments.specs.Passing.{AcceptedShort}
use Rattle.segments.specs.Promise.{figures, Says, SaysBy, SaysAccepted, JudgeSays}
use Rattle.segments.specs.Segments.{segments_of, at}
use Rattle.segments.proofs.Answers.{valid, positive}
use Rattle.segments.proofs.Passing.{accepted-passes}
use Rattle.verdict.specs.Promise as verdict
use Rattle.verdict.specs.Promise.{VerdictSays, SaysMisses}
use Rattle.verdict.specs.Promise.Word.{misses}
use Rattle.verdict.specs.declared.Answer as sheet

-- Of the accepted, by its figures.
accepted-says : (t h s : List ℕ) (L : ℕ) → JudgeSays t h s L (Ok None) → SaysAccepted t h s L (figures (Ok None))
unfolding JudgeSays Says SaysBy figures
accepted-says t h s L says = says

-- Of the sheet, by its word.
misses-says : (t h : List ℕ) (v : Result sheet.Answer Refusal) → VerdictSays t h v → (verdict.figures v).word ≡ misses → SaysMisses t h (verdict.figures v)
unfolding VerdictSays verdict.Says verdict.SaysBy
misses-says t h v says e = subst (λ (w : verdict.Word). verdict.SaysBy w t h (verdict.figures v)) e says

-- A length that fails is above a span up to which a schedule is accepted.
pub accepted-short : AcceptedShort
accepted-short t h s L says v told word = go (le-or-lt (verdict.figures v).interval L)
  where
    here : SaysAccepted t h s L (figures (Ok None))
    here = accepted-says t h s L says

    miss : SaysMisses t h (verdict.figures v)
    miss = misses-says t h v told word

    go : ((verdict.figures v).interval ≤ L) ⊎ (L < (verdict.figures v).interval) → L < (verdict.figures v).interval
    go (inr l) = l
    go (inl l) =
        let passes =
        accepted-passes (tasks_of t) (handlers_of h) (valid t h s L here.answered) (positive t h s L here.answered)
        (at (segments_of s)) L here.accepted
        (verdict.figures v).interval l in
        absurd (omega (arith, passes, miss.shortest.fails))
