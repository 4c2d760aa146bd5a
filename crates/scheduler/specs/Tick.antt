-- One tick (01, "One tick of the scheduler"), over the numbers that a run holds. Who of the tasks runs goes by a key, in 01 the deadline.
--   ahead clock ticks w old   == a tick so many ticks ahead of the clock after an arrival of w, the old one without
--   next_after, due_after       == a row's next legal arrival after an arrival of w; a task's deadline
--   next_arrived, due_arrived, owed_arrived   == all rows' next arrivals, all tasks' deadlines and all rows' work owed after the arrivals ws
--   GoesTo key owed n m ran   the tick goes to ran, of n tasks and m handlers that are owed `owed`: 01's rule, word for word
--   goes_to key owed n m       == the one to whom it goes
--   smaller best key          == a key is smaller than that of the task found, if one is
--   better, earliest          == the task with the smallest key of those owed work, the lowest row of several, found row by row
--   to_task best              == the one to whom the tick goes where no handler is owed work
--   paid owed n ran           == work owed after the tick of ran
--   is_late, late_row           == a task is owed work at its deadline; the first such row
--   is_task late               == a row is named
--   closed, ended             == the run one tick on and the answer, where it is known whether it is over; where it is known who is late
--   served, given             == the same, where it is known who ran; where it is known what rows have after the arrivals
--   next_with, due_with, owed_with r ws   == what the rows of run r have after the arrivals ws
--   key_in, ran_by, late_by key r ws      == then the key of each task, who runs, and who is late at the end of the tick
--   ticked_by key r ws         == all of it, with the arrivals ws, where of the tasks owed work the one with the smallest key runs
use Rattle.std.specs.Prelude.{Bool, true, ◌&&◌, List, Option, None, Some, is_some, Ok, ◌≡◌}
use Rattle.std.specs.Prelude.{ℕ, zero, suc, ◌+◌, ◌-◌, ◌≤◌, ◌<◌, ltb, eqb, get_or, set}
use Rattle.demand.specs.Rows.{Row}
use Rattle.demand.specs.Tests.{pick}
use Rattle.machine.specs.Live.{Live}
use Rattle.scheduler.specs.Runs.{run_of, row_in, row_count}
use Rattle.scheduler.specs.Scans.{at, first_of, filled}
use Rattle.scheduler.specs.declared.Ran.{Ran}
use Rattle.scheduler.specs.declared.Ran.TheVariants as ran
use Rattle.scheduler.specs.declared.Run.{Run}
use Rattle.scheduler.specs.declared.Stepped.{Stepped}
use Rattle.scheduler.specs.declared.tick.Best.{Best}

-- ---- arrivals add their work, and the row's next legal arrival becomes clock + period;
-- a task's deadline becomes clock + its own (02, M-101)

abbrev pub ahead : ℕ → ℕ → ℕ → ℕ → ℕ
ahead clock ticks w old = pick (eqb w 0) old (clock + ticks)

abbrev pub next_after : ℕ → Row → ℕ → ℕ → ℕ
next_after clock row w next = ahead clock row.period w next

abbrev pub due_after : ℕ → Row → ℕ → ℕ → ℕ
due_after clock row w due = ahead clock row.deadline w due

unfoldable pub next_arrived : ℕ → (ℕ → Row) → List ℕ → ℕ → List ℕ → List ℕ
next_arrived clock row ws n next = filled (λ k. next_after clock (row k) (get_or ws k 0) (get_or next k 0)) n next

unfoldable pub due_arrived : ℕ → (ℕ → Row) → List ℕ → ℕ → List ℕ → List ℕ
due_arrived clock row ws n due = filled (λ k. due_after clock (row k) (get_or ws k 0) (get_or due k 0)) n due

unfoldable pub owed_arrived : List ℕ → ℕ → List ℕ → List ℕ
owed_arrived ws n owed = filled (λ k. get_or owed k 0 + get_or ws k 0) n owed

-- ---- the tick goes to the first handler row that is owed work,

pub record ToHandler (owed : List ℕ) (n m i : ℕ) : Type 0 where
  pub row : i < m
  pub work : 0 < get_or owed (n + i) 0
  pub first : (j : ℕ) → j < i → get_or owed (n + j) 0 ≡ 0

-- else to the task with the earliest deadline among those owed work, lowest row on a tie,

pub record ToTask (key : ℕ → ℕ) (owed : List ℕ) (n m i : ℕ) : Type 0 where
  pub no-handler : (j : ℕ) → j < m → get_or owed (n + j) 0 ≡ 0
  pub row : i < n
  pub work : 0 < get_or owed i 0
  pub earliest : (j : ℕ) → j < n → 0 < get_or owed j 0 → key i ≤ key j
  pub lowest : (j : ℕ) → j < i → 0 < get_or owed j 0 → key j ≡ key i → ⊥

-- else it is idle.

pub record ToNobody (owed : List ℕ) (n m : ℕ) : Type 0 where
  pub no-handler : (j : ℕ) → j < m → get_or owed (n + j) 0 ≡ 0
  pub no-task : (j : ℕ) → j < n → get_or owed j 0 ≡ 0

unfoldable pub GoesTo : (ℕ → ℕ) → List ℕ → ℕ → ℕ → Ran → Type 0
GoesTo key owed n m (ran.Handler i) = ToHandler owed n m i
GoesTo key owed n m (ran.Task i) = ToTask key owed n m i
GoesTo key owed n m ran.Idle = ToNobody owed n m

abbrev pub smaller : Option Best → ℕ → Bool
smaller None key = true
smaller (Some best) key = ltb key best.key

-- Row k takes the place of the best so far where it is owed work and that has no smaller key.
abbrev pub better : Option Best → ℕ → ℕ → ℕ → Option Best
better best k owed key = pick (ltb 0 owed && smaller best key) (Some (record { row = k; key = key })) best

unfoldable pub earliest : (ℕ → ℕ) → List ℕ → ℕ → Option Best
earliest key owed zero = None
earliest key owed (suc n) = better (earliest key owed n) n (get_or owed n 0) (key n)

abbrev pub to_task : Option Best → Ran
to_task None = ran.Idle
to_task (Some best) = ran.Task best.row

abbrev pub owed_at : List ℕ → ℕ → ℕ → Bool
owed_at owed n i = ltb 0 (get_or owed (n + i) 0)

unfoldable pub goes_to : (ℕ → ℕ) → List ℕ → ℕ → ℕ → Ran
goes_to key owed n m = first_of (owed_at owed n) ran.Handler m (to_task (earliest key owed n))

abbrev pub less : List ℕ → ℕ → List ℕ
less owed k = set owed k (get_or owed k 0 - 1)

abbrev pub paid : List ℕ → ℕ → Ran → List ℕ
paid owed n (ran.Handler i) = less owed (n + i)
paid owed n (ran.Task i) = less owed i
paid owed n ran.Idle = owed

-- ---- if a task is owed work and its deadline equals the clock, the run is over and the first such row is the late one

abbrev pub is_late : ℕ → (ℕ → ℕ) → List ℕ → ℕ → Bool
is_late clock due owed k = ltb 0 (get_or owed k 0) && eqb (due k) clock

unfoldable pub late_row : ℕ → (ℕ → ℕ) → List ℕ → ℕ → Option ℕ
late_row clock due owed n = first_of (is_late clock due owed) Some n None

abbrev pub is_task : Option ℕ → Bool
is_task = is_some

-- ---- the whole tick: the clock moves on by 1 between the two

abbrev pub closed : Run → List ℕ → List ℕ → List ℕ → Ran → Bool → Option ℕ → Stepped
closed r next due owed ran over late = record {
  run = run_of r.tasks r.handlers r.task_count r.handler_count (r.clock + 1) next due owed over late;
  answer = Ok (record { ran = ran; late = late });
}

abbrev pub ended : Run → List ℕ → List ℕ → List ℕ → Ran → Option ℕ → Stepped
ended r next due owed ran late = closed r next due owed ran (is_task late) late

-- What is left of the tick once it is known to whom it goes.
abbrev pub served : Run → List ℕ → List ℕ → List ℕ → Ran → Stepped
served r next due owed ran =
    ended r next due (paid owed r.task_count ran) ran
    (late_row (r.clock + 1) (at due) (paid owed r.task_count ran) r.task_count)

abbrev pub key_with : (Live → ℕ) → Run → List ℕ → List ℕ → List ℕ → ℕ → ℕ
key_with key r next due owed k = key (record { row = row_in r k; next = get_or next k 0; due = get_or due k 0; owed = get_or owed k 0 })

-- The tick after the arrivals, where rows have these next arrivals, deadlines and this work owed.
abbrev pub given : (Live → ℕ) → Run → List ℕ → List ℕ → List ℕ → Stepped
given key r next due owed = served r next due owed (goes_to (key_with key r next due owed) owed r.task_count r.handler_count)

-- What the rows of run r have after the arrivals ws.
abbrev pub next_with : Run → List ℕ → List ℕ
next_with r ws = next_arrived r.clock (row_in r) ws (row_count r) r.next

abbrev pub due_with : Run → List ℕ → List ℕ
due_with r ws = due_arrived r.clock (row_in r) ws r.task_count r.due

abbrev pub owed_with : Run → List ℕ → List ℕ
owed_with r ws = owed_arrived ws (row_count r) r.owed

-- The key of the task at each place, and the one to whom the tick goes.
abbrev pub key_in : (Live → ℕ) → Run → List ℕ → ℕ → ℕ
key_in key r ws = key_with key r (next_with r ws) (due_with r ws) (owed_with r ws)

abbrev pub ran_by : (Live → ℕ) → Run → List ℕ → Ran
ran_by key r ws = goes_to (key_in key r ws) (owed_with r ws) r.task_count r.handler_count

-- The late row at the tick's end.
abbrev pub late_by : (Live → ℕ) → Run → List ℕ → Option ℕ
late_by key r ws =
    late_row (r.clock + 1) (at (due_with r ws)) (paid (owed_with r ws) r.task_count (ran_by key r ws)) r.task_count

unfoldable pub ticked_by : (Live → ℕ) → Run → List ℕ → Stepped
ticked_by key r ws = given key r (next_with r ws) (due_with r ws) (owed_with r ws)
