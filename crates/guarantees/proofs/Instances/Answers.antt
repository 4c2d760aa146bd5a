-- Answers in numbers (01, "One tick of the scheduler" and "Numbered refusals"): the figures of each case of an answer, what stands beside a
-- refused fresh run, 7 before 8, and who gets a tick where several would.
use mathlib.Core.Bool.{true, false}
use mathlib.Core.List.{List, [], ◌∷◌, ◌++◌}
use mathlib.Core.Path.{◌≡◌, refl}
use Prim.Native.Nat.{ℕ, zero, suc}
use lib.ListN.{length, set}
use Rattle.demand.specs.Numbered.{refused}
use Rattle.demand.specs.declared.refusal.Refusal.TheVariants.{ArrivalEarly, RowOutOfRange}
use Rattle.demand.specs.declared.refusal.Refusal.{Refusal}
use Rattle.std.specs.Prelude.{None, Some, Option, Result, Ok, Err}
use Rattle.demand.specs.Refusals.{table_refusal, table_tests}
use Rattle.demand.specs.Rows.{some, tasks_of, handlers_of}
use Rattle.demand.specs.Tests.{first_refusal}
use Rattle.machine.specs.Schedules.{beats}
use Rattle.scheduler.specs.Bounds.{out_of_bounds}
use Rattle.scheduler.specs.Promise.{Who, nobody, handler, task, Figures, figures}
use Rattle.scheduler.specs.Reached.{offered_by}
use Rattle.scheduler.specs.Runs.{run_of}
use Rattle.scheduler.specs.Scans.{any, first_of, filled, used}
use Rattle.scheduler.specs.Start.{padded, zeros, no_run, fresh_run, fresh_of}
use Rattle.scheduler.specs.Steps.{step_tests, step_refusal, step_by, step_of}
use Rattle.scheduler.specs.Tick.{next_arrived, due_arrived, owed_arrived, earliest, goes_to, late_row, ticked_by}
use Rattle.scheduler.specs.declared.Ran.{Ran}
use Rattle.scheduler.specs.declared.Ran.TheVariants as ran
use Rattle.scheduler.specs.declared.Run.{Run}
use Rattle.scheduler.specs.declared.Ticked.{Ticked}
use Rattle.guarantees.specs.Patterns.{pattern_to}
use Rattle.guarantees.specs.Synchronous.{beat_of, sync_run}
use Rattle.guarantees.proofs.Instances.Cases.{tasks-9, handlers-9}

-- The figures of an answer, in their order.
abbrev told : ℕ → Who → ℕ → Who → ℕ → Figures
told code who row who_late row_late = record { code = code; ran = who; row = row; late = who_late; late_row = row_late }

-- ---- each case of an answer

abbrev ticked : Ran → Option ℕ → Result Ticked Refusal
ticked ran late = Ok (record { ran = ran; late = late })

handler-ran : figures (ticked (ran.Handler 3) None) ≡ told 0 handler 3 nobody 0
unfolding figures
handler-ran = refl

task-ran : figures (ticked (ran.Task 5) None) ≡ told 0 task 5 nobody 0
unfolding figures
task-ran = refl

idle-late : figures (ticked ran.Idle (Some 7)) ≡ told 0 nobody 0 task 7
unfolding figures
idle-late = refl

task-late : figures (ticked (ran.Task 5) (Some 2)) ≡ told 0 task 5 task 2
unfolding figures
task-late = refl

refused-10 : figures (Err ArrivalEarly) ≡ told 10 nobody 0 nobody 0
unfolding figures
refused-10 = refl

ready : refused {A = Unit} (Ok tt) ≡ 0
ready = refl

refused-3 : refused {A = Unit} (Err RowOutOfRange) ≡ 3
refused-3 = refl

-- ---- case 13: the ten ticks go to H0 T0 T0 T1 H0 T1 T1 T1 H0 T0, then task 0 is late at clock 10

ticks_to : ℕ → List Figures
ticks_to zero = []
ticks_to (suc n) = ticks_to n ++ (figures (step_of (sync_run tasks-9 handlers-9 n) (beat_of tasks-9 handlers-9 n)).answer ∷ [])

case-13 : ticks_to 10
    ≡ told 0 handler 0 nobody 0
    ∷ told 0 task 0 nobody 0
    ∷ told 0 task 0 nobody 0
    ∷ told 0 task 1 nobody 0
    ∷ told 0 handler 0 nobody 0
    ∷ told 0 task 1 nobody 0
    ∷ told 0 task 1 nobody 0
    ∷ told 0 task 1 nobody 0
    ∷ told 0 handler 0 nobody 0
    ∷ told 0 task 0 task 0
    ∷ []
unfolding ticks_to figures offered_by pattern_to beat_of beats fresh_of fresh_run table_refusal first_refusal table_tests some tasks_of handlers_of padded zeros step_by step_refusal step_tests out_of_bounds any used ticked_by next_arrived due_arrived owed_arrived filled goes_to earliest first_of late_row
case-13 = refl

-- ---- who gets a tick where several would: tasks with one deadline, two handlers, two late tasks

abbrev first-of : List ℕ → List ℕ → List ℕ → Figures
first-of t h ws = figures (step_of (fresh_of t h).run ws).answer

-- Tasks 1/4 and 1/4: the lowest row on a tie.
tie : first-of (1 ∷ 4 ∷ 4 ∷ 1 ∷ 4 ∷ 4 ∷ []) [] (1 ∷ 1 ∷ []) ≡ told 0 task 0 nobody 0
unfolding figures fresh_of fresh_run table_refusal first_refusal table_tests some tasks_of handlers_of padded zeros step_by step_refusal step_tests out_of_bounds any used ticked_by next_arrived due_arrived owed_arrived filled goes_to earliest first_of late_row
tie = refl

-- Tasks 1/8 and 1/4: the earliest deadline, though it is in a later row.
earlier : first-of (1 ∷ 8 ∷ 8 ∷ 1 ∷ 4 ∷ 4 ∷ []) [] (1 ∷ 1 ∷ []) ≡ told 0 task 1 nobody 0
unfolding figures fresh_of fresh_run table_refusal first_refusal table_tests some tasks_of handlers_of padded zeros step_by step_refusal step_tests out_of_bounds any used ticked_by next_arrived due_arrived owed_arrived filled goes_to earliest first_of late_row
earlier = refl

-- Handlers 1/9 and 1/4 beside a task 1/2: the first handler row, whatever the periods.
first-handler : first-of (1 ∷ 2 ∷ 2 ∷ []) (1 ∷ 9 ∷ 1 ∷ 4 ∷ []) (1 ∷ 1 ∷ 1 ∷ []) ≡ told 0 handler 0 nobody 0
unfolding figures fresh_of fresh_run table_refusal first_refusal table_tests some tasks_of handlers_of padded zeros step_by step_refusal step_tests out_of_bounds any used ticked_by next_arrived due_arrived owed_arrived filled goes_to earliest first_of late_row
first-handler = refl

-- Tasks 1/2, 1/1 and 1/1 beside a handler 1/9: at clock 1 tasks 1 and 2 are late, and the first of them is told.
first-late : first-of (1 ∷ 2 ∷ 2 ∷ 1 ∷ 1 ∷ 1 ∷ 1 ∷ 1 ∷ 1 ∷ []) (1 ∷ 9 ∷ []) (1 ∷ 1 ∷ 1 ∷ 1 ∷ []) ≡ told 0 handler 0 task 1
unfolding figures fresh_of fresh_run table_refusal first_refusal table_tests some tasks_of handlers_of padded zeros step_by step_refusal step_tests out_of_bounds any used ticked_by next_arrived due_arrived owed_arrived filled goes_to earliest first_of late_row
first-late = refl

-- Nothing to do.
nothing : first-of (1 ∷ 2 ∷ 2 ∷ []) (1 ∷ 9 ∷ []) (0 ∷ 0 ∷ []) ≡ told 0 nobody 0 nobody 0
unfolding figures fresh_of fresh_run table_refusal first_refusal table_tests some tasks_of handlers_of padded zeros step_by step_refusal step_tests out_of_bounds any used ticked_by next_arrived due_arrived owed_arrived filled goes_to earliest first_of late_row
nothing = refl

-- ---- beside a refused fresh run, of a task with cost 0, stands a run of zeros

abbrev beside : Run
beside = (fresh_of (0 ∷ 5 ∷ 5 ∷ []) (1 ∷ 4 ∷ [])).run

fresh-3 : (fresh_of (0 ∷ 5 ∷ 5 ∷ []) (1 ∷ 4 ∷ [])).answer ≡ Err RowOutOfRange
unfolding fresh_of table_refusal first_refusal table_tests some tasks_of handlers_of
fresh-3 = refl

-- 192 numbers of tasks, 32 of handlers, 80 next arrivals, 64 deadlines, 80 times work owed; no rows, clock 0, not over, nobody late
numbers-beside : length beside.tasks ∷ length beside.handlers ∷ length beside.next ∷ length beside.due ∷ length beside.owed
    ∷ beside.task_count ∷ beside.handler_count ∷ beside.clock ∷ []
    ≡ 192 ∷ 32 ∷ 80 ∷ 64 ∷ 80 ∷ 0 ∷ 0 ∷ 0 ∷ []
unfolding fresh_of no_run table_refusal first_refusal table_tests some tasks_of handlers_of zeros
numbers-beside = refl

nothing-beside : used (beside.tasks ++ beside.handlers ++ beside.next ++ beside.due ++ beside.owed) ≡ false
unfolding fresh_of no_run table_refusal first_refusal table_tests some tasks_of handlers_of zeros used
nothing-beside = refl

over-beside : beside.over ≡ false
unfolding fresh_of no_run table_refusal first_refusal table_tests some tasks_of handlers_of
over-beside = refl

late-beside : beside.late ≡ None
unfolding fresh_of no_run table_refusal first_refusal table_tests some tasks_of handlers_of
late-beside = refl

-- ---- 7 before 8: a run of task 2/5 that is over at the last clock, and one that is not

abbrev over_last : Run
over_last =
    run_of (padded 192 (2 ∷ 5 ∷ 5 ∷ [])) (zeros 32) 1 0 1000000000
    (set (zeros 80) 0 1000000000) (set (zeros 64) 0 1000000000) (set (zeros 80) 0 1) true (Some 0)

abbrev going-last : Run
going-last =
    run_of (padded 192 (2 ∷ 5 ∷ 5 ∷ [])) (zeros 32) 1 0 1000000000
    (set (zeros 80) 0 1000000000) (set (zeros 64) 0 1000000000) (zeros 80) false None

over-7 : step_refusal over_last (0 ∷ []) ≡ 7
unfolding first_refusal tasks_of handlers_of padded zeros step_refusal step_tests out_of_bounds any used first_of late_row
over-7 = refl

going-8 : step_refusal going-last (0 ∷ []) ≡ 8
unfolding first_refusal tasks_of handlers_of padded zeros step_refusal step_tests out_of_bounds any used first_of late_row
going-8 = refl
