-- To whom our scheduler's synchronous run gives each tick: every row arrives at 0 and each period after, with its full cost.
--   who_ran ran        == whose tick it was: of nobody where it was idle
--   ran_of answer      == who ran, by the answer to a step; nobody where it is refused, as each step of a run that is over
--   own t h n         == to whom the run of the table t, h gives tick n
--   Ending t h L e    within a span of L ticks the run ends at clock e: it is not over before e, and e is L or it is over at e
use Rattle.demand.specs.declared.refusal.Refusal.{Refusal}
use Rattle.std.specs.Prelude.{true, false, List, ◌≡◌, ℕ, ◌≤◌, ◌<◌, Result, Ok, Err}
use Rattle.guarantees.specs.Synchronous.{beat_of, sync_run}
use Rattle.scheduler.specs.Steps.{step_of}
use Rattle.scheduler.specs.declared.Ran.{Ran}
use Rattle.scheduler.specs.declared.Ran.TheVariants as ran
use Rattle.scheduler.specs.declared.Ticked.{Ticked}
use Rattle.segments.specs.Given.{Who, nobody, task, handler}

abbrev pub who_ran : Ran → Who
who_ran (ran.Handler i) = handler i
who_ran (ran.Task i) = task i
who_ran ran.Idle = nobody

abbrev pub ran_of : Result Ticked Refusal → Ran
ran_of (Ok t) = t.ran
ran_of (Err e) = ran.Idle

unfoldable pub own : List ℕ → List ℕ → ℕ → Who
own t h n = who_ran (ran_of (step_of (sync_run t h n) (beat_of t h n)).answer)

pub record Ending (t h : List ℕ) (L e : ℕ) : Type 0 where
  pub within : e ≤ L
  pub going : (n : ℕ) → n < e → (sync_run t h n).over ≡ false
  pub over : e < L → (sync_run t h e).over ≡ true
