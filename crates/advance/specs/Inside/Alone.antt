-- A piece as the code finds it: its first tick is a step, then the same one goes on.
--   runner r             == the one that runs in run r, where nothing arrives
--   work_of owed n ran    == the work of the one that runs; of nobody, more than any piece is long
--   first_due due owed n  == the earliest deadline of a task owed work, the last tick where there is none before it
--   lasts ..             == how many of the ticks left go on to the same one: not past the end of its work, nor past the first deadline
--   lasts_in r ran left   == that, of run r
--   less_by, paid_by       == work owed after d ticks of ran
--   Placed ran           ran is a row that a run has a place for; PayableBy: and is owed as much
--   standing, stood      == the run at another clock with other work owed; where it is told by the deadlines who is late
--   slid r ran d         == the run d ticks on, all of which ran took, where nobody is late
--   Follows r ran        ran had the tick before run r, and has the next one if it is owed work and the run goes on
--   no_tick r e          == the piece without a tick, where a step is refused or none is asked for
--   piece_after r ran left == the piece whose first tick left run r
use Rattle.std.specs.Prelude.{Bool, false, List, Option, None, ◌≡◌, ℕ, zero, suc, ◌+◌, ◌-◌, ◌≤◌, ◌<◌, min, eqb, get_or, set}
use Rattle.advance.specs.Stretch.{stretch}
use Rattle.advance.specs.declared.Piece.{Piece}
use Rattle.demand.specs.Limits.{tasks_most, handlers_most, ticks_most}
use Rattle.demand.specs.Tests.{pick}
use Rattle.demand.specs.declared.refusal.Refusal.{Refusal}
use Rattle.scheduler.specs.Bounds.{InBounds}
use Rattle.scheduler.specs.Runs.{run_of}
use Rattle.scheduler.specs.Scans.{at}
use Rattle.scheduler.specs.Tick.{goes_to, late_row, is_task}
use Rattle.scheduler.specs.declared.Ran.{Ran}
use Rattle.scheduler.specs.declared.Ran.TheVariants.{Handler, Task, Idle}
use Rattle.scheduler.specs.declared.Run.{Run}

abbrev pub runner : Run → Ran
runner r = goes_to (at r.due) r.owed r.task_count r.handler_count

-- ---- how long the same one goes on

abbrev pub work_of : List ℕ → ℕ → Ran → ℕ
work_of owed n (Handler i) = get_or owed (n + i) 0
work_of owed n (Task i) = get_or owed i 0
work_of owed n Idle = ticks_most

abbrev pub nearer : ℕ → ℕ → ℕ → ℕ
nearer first owed due = pick (eqb owed 0) first (min first due)

unfoldable pub first_due : List ℕ → List ℕ → ℕ → ℕ
first_due due owed zero = ticks_most
first_due due owed (suc k) = nearer (first_due due owed k) (get_or owed k 0) (get_or due k 0)

abbrev pub lasts : Bool → ℕ → ℕ → ℕ → ℕ → ℕ
lasts over clock left work first = pick over 0 (min left (min work (first - clock)))

unfoldable pub lasts_in : Run → Ran → ℕ → ℕ
lasts_in r ran left =
    lasts r.over r.clock left (work_of r.owed r.task_count ran) (first_due r.due r.owed r.task_count)

-- ---- what it leaves owed

abbrev pub less_by : List ℕ → ℕ → ℕ → List ℕ
less_by owed k d = set owed k (get_or owed k 0 - d)

abbrev pub paid_by : List ℕ → ℕ → Ran → ℕ → List ℕ
paid_by owed n (Handler i) d = less_by owed (n + i) d
paid_by owed n (Task i) d = less_by owed i d
paid_by owed n Idle d = owed

unfoldable pub Placed : Ran → Type 0
Placed (Handler i) = i < handlers_most
Placed (Task i) = i < tasks_most
Placed Idle = Unit

unfoldable pub PayableBy : List ℕ → ℕ → Ran → ℕ → Type 0
PayableBy owed n (Handler i) d = (i < handlers_most) × (d ≤ get_or owed (n + i) 0)
PayableBy owed n (Task i) d = (i < tasks_most) × (d ≤ get_or owed i 0)
PayableBy owed n Idle d = Unit

-- ---- the run then

abbrev pub standing : Run → ℕ → List ℕ → Option ℕ → Run
standing r clock owed late =
    run_of r.tasks r.handlers r.task_count r.handler_count clock r.next r.due owed (is_task late) late

abbrev pub stood : Run → ℕ → List ℕ → Run
stood r clock owed = standing r clock owed (late_row clock (at r.due) owed r.task_count)

unfoldable pub slid : Run → Ran → ℕ → Run
slid r ran d = standing r (r.clock + d) (paid_by r.owed r.task_count ran d) None

pub record Follows (r : Run) (ran : Ran) : Type 0 where
  pub inside : InBounds r
  pub placed : Placed ran
  pub same : r.over ≡ false → 0 < work_of r.owed r.task_count ran → runner r ≡ ran

abbrev pub no_tick : Run → Option Refusal → Piece
no_tick r refusal = record { run = r; ran = Idle; ticks = 0; refusal = refusal }

unfoldable pub piece_after : Run → Ran → ℕ → Piece
piece_after r ran left =
    record { run = stretch (lasts_in r ran left) r; ran = ran; ticks = lasts_in r ran left + 1; refusal = None }
