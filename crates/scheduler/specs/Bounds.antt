-- A run that is out of bounds, refusal 6 (01, "One tick of the scheduler"): each of its clauses, in its order.
-- A clause is a test of a run; above it stands the test of one place that it asks of all.
--   table_refused r     == its table meets 1, 2, 3 or 13
--   places_used r       == a place past its last row isn't 0
--   clock_past r        == the clock is above its limit
--   next_too_far r       == a next arrival is above clock + period
--   task_too_much r      == a task is owed more than its cost
--   handler_too_much r   == a handler is owed more than clock times its cost
--   due_too_far r        == a task's deadline is above clock + the row's own (02, M-101)
--   due_after_next r     == a task's deadline is after its next arrival (02, M-101)
--   deadline_missed r   == a task owed work has a deadline at or before the clock (not over) or before it (over)
--   late_wrong r        == it is over and its late row isn't the first task owed work with deadline equal to the clock
--   late_named r        == it is not over and names a late row
--   out_of_bounds r      == one of them
--   InBounds r         none of them
use Rattle.std.specs.Prelude.{Bool, false, not, ◌&&◌, ◌||◌, List, Option, None, Some, ◌≡◌, ℕ, ◌+◌, ◌*◌, ltb, leb, eqb, get_or, drop}
use Rattle.demand.specs.Limits.{tasks_most, handlers_most, ticks_most}
use Rattle.demand.specs.Refusals.{row_outside, deadline_outside}
use Rattle.demand.specs.Rows.{Row}
use Rattle.demand.specs.Tests.{pick}
use Rattle.scheduler.specs.Runs.{row_in, row_count}
use Rattle.scheduler.specs.Scans.{at, any, used}
use Rattle.scheduler.specs.Tick.{late_row, is_task}
use Rattle.scheduler.specs.declared.Run.{Run}

-- 1 cannot be met, since a run counts rows and not numbers. 2: no task, over 64 tasks or over 16 handlers.
abbrev pub miscounts : ℕ → ℕ → Bool
miscounts n m = eqb n 0 || ltb tasks_most n || ltb handlers_most m

-- 3: a cost or period is 0 or above 1,000,000
abbrev pub outside_at : (ℕ → Row) → ℕ → Bool
outside_at row k = row_outside (row k)

-- 13: a deadline is 0 or above its period
abbrev pub deadline_outside_at : (ℕ → Row) → ℕ → Bool
deadline_outside_at row k = deadline_outside (row k)

abbrev pub table_refused : Run → Bool
table_refused r =
    miscounts r.task_count r.handler_count
    || any (outside_at (row_in r)) (row_count r)
    || any (deadline_outside_at (row_in r)) r.task_count

-- In the table (three numbers a task, two a handler), the next arrivals, the deadlines (only tasks have one) and the work owed alike.
abbrev pub places_used : Run → Bool
places_used r =
    used (drop (3 * r.task_count) r.tasks)
    || used (drop (2 * r.handler_count) r.handlers)
    || used (drop (row_count r) r.next)
    || used (drop r.task_count r.due)
    || used (drop (row_count r) r.owed)

abbrev pub clock_past : Run → Bool
clock_past r = ltb ticks_most r.clock

abbrev pub too_far : ℕ → (ℕ → Row) → List ℕ → ℕ → Bool
too_far clock row next k = ltb (clock + (row k).period) (get_or next k 0)

abbrev pub next_too_far : Run → Bool
next_too_far r = any (too_far r.clock (row_in r) r.next) (row_count r)

abbrev pub too_much : (ℕ → Row) → List ℕ → ℕ → Bool
too_much row owed k = ltb (row k).cost (get_or owed k 0)

abbrev pub task_too_much : Run → Bool
task_too_much r = any (too_much (row_in r) r.owed) r.task_count

-- of handler i, behind n tasks
abbrev pub too_much_behind : ℕ → (ℕ → Row) → List ℕ → ℕ → ℕ → Bool
too_much_behind clock row owed n i = ltb (clock * (row (n + i)).cost) (get_or owed (n + i) 0)

abbrev pub handler_too_much : Run → Bool
handler_too_much r = any (too_much_behind r.clock (row_in r) r.owed r.task_count) r.handler_count

abbrev pub due_far : ℕ → (ℕ → Row) → List ℕ → ℕ → Bool
due_far clock row due k = ltb (clock + (row k).deadline) (get_or due k 0)

abbrev pub due_too_far : Run → Bool
due_too_far r = any (due_far r.clock (row_in r) r.due) r.task_count

abbrev pub due_behind : List ℕ → List ℕ → ℕ → Bool
due_behind next due k = ltb (get_or next k 0) (get_or due k 0)

abbrev pub due_after_next : Run → Bool
due_after_next r = any (due_behind r.next r.due) r.task_count

abbrev pub passed : Bool → ℕ → ℕ → Bool
passed over clock due = pick over (ltb due clock) (leb due clock)

abbrev pub missed : Bool → ℕ → (ℕ → ℕ) → List ℕ → ℕ → Bool
missed over clock due owed k = ltb 0 (get_or owed k 0) && passed over clock (due k)

abbrev pub deadline_missed : Run → Bool
deadline_missed r = any (missed r.over r.clock (at r.due) r.owed) r.task_count

-- The late row is named, and is that of the first late task.
abbrev pub names : Option ℕ → Option ℕ → Bool
names None first = false
names (Some i) None = false
names (Some i) (Some j) = eqb i j

abbrev pub late_wrong : Run → Bool
late_wrong r = r.over && not (names r.late (late_row r.clock (at r.due) r.owed r.task_count))

abbrev pub late_named : Run → Bool
late_named r = not r.over && is_task r.late

unfoldable pub out_of_bounds : Run → Bool
out_of_bounds r =
    table_refused r
    || places_used r
    || clock_past r
    || next_too_far r
    || task_too_much r
    || handler_too_much r
    || due_too_far r
    || due_after_next r
    || deadline_missed r
    || late_wrong r
    || late_named r

abbrev pub InBounds : Run → Type 0
InBounds r = out_of_bounds r ≡ false
