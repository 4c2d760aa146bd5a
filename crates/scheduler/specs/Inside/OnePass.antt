-- Refusal 6 as the code asks it: of each task, then of each handler, all clauses of a row at once.
-- That it is the refusal is proved in proofs/Steps/OnePass.
--   earliest_due over clock    == the earliest deadline that has not passed
--   task_out, handler_out       == a clause is met by a row with this next arrival, deadline and work owed
--   task_out_at .. k            == by task k; handler_out_at .. i by handler i
--   late_out over late first   == the late row is not that of the first late task, or is named where the run is not over
use Rattle.std.specs.Prelude.{Bool, not, ◌&&◌, ◌||◌, List, Option, ℕ, ◌+◌, ◌*◌, ltb, get_or}
use Rattle.demand.specs.Refusals.{row_outside, deadline_outside}
use Rattle.demand.specs.Rows.{Row, tasks_of, handlers_of, row_at}
use Rattle.demand.specs.Tests.{pick}
use Rattle.scheduler.specs.Bounds.{names}
use Rattle.scheduler.specs.Tick.{is_task}

abbrev pub earliest_due : Bool → ℕ → ℕ
earliest_due over clock = pick over clock (clock + 1)

abbrev pub task_out : ℕ → ℕ → Row → ℕ → ℕ → ℕ → Bool
task_out clock first row next due owed =
    row_outside row
    || deadline_outside row
    || ltb (clock + row.period) next
    || ltb row.cost owed
    || ltb (clock + row.deadline) due
    || ltb next due
    || (ltb 0 owed && ltb due first)

abbrev pub handler_out : ℕ → Row → ℕ → ℕ → Bool
handler_out clock row next owed =
    row_outside row
    || ltb (clock + row.period) next
    || ltb (clock * row.cost) owed

-- Task k of the table's numbers t, with its place in the run's lists.
abbrev pub task_out_at : ℕ → ℕ → List ℕ → List ℕ → List ℕ → List ℕ → ℕ → Bool
task_out_at clock first t next due owed k = task_out clock first (row_at (tasks_of t) k) (get_or next k 0) (get_or due k 0) (get_or owed k 0)

-- Handler i of the table's numbers h, behind n tasks.
abbrev pub handler_out_at : ℕ → List ℕ → List ℕ → List ℕ → ℕ → ℕ → Bool
handler_out_at clock h next owed n i = handler_out clock (row_at (handlers_of h) i) (get_or next (n + i) 0) (get_or owed (n + i) 0)

abbrev pub late_out : Bool → Option ℕ → Option ℕ → Bool
late_out over late first = (over && not (names late first)) || (not over && is_task late)
