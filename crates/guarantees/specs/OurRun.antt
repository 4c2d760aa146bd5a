-- Our own run among the schedules (00, demand 3).
--   Ours t h n             the synchronous run after n ticks is seen as our machine's state, to which it comes on time
--   OurRun                 the synchronous run of `fresh` and `step` is our scheduler's, and such a schedule, for as long
--                          as it is not over; of any table, after a yes too
use Rattle.std.specs.Prelude.{false, List, ◌≡◌, ℕ, ◌≤◌, Ok}
use Rattle.demand.specs.Limits.{ticks_most}
use Rattle.demand.specs.Rows.{tasks_of, handlers_of}
use Rattle.machine.specs.Machine.{sync}
use Rattle.machine.specs.Schedules.{Timely}
use Rattle.scheduler.specs.Start.{fresh_of}
use Rattle.guarantees.specs.Synchronous.{sync_run}
use Rattle.guarantees.specs.View.{view_of}

-- The run after n ticks is seen as our scheduler's state, to which it comes on time.
pub record Ours (t h : List ℕ) (n : ℕ) : Type 0 where
  pub view : view_of (sync_run t h n) ≡ sync n (tasks_of t) (handlers_of h)
  pub timely : Timely (tasks_of t) (handlers_of h) n (view_of (sync_run t h n)).tasks (view_of (sync_run t h n)).handlers

abbrev pub OurRun : Type 0
OurRun = (t h : List ℕ) → (fresh_of t h).answer ≡ Ok tt → (n : ℕ) → n ≤ ticks_most → (sync_run t h n).over ≡ false → Ours t h n
