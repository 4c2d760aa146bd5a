-- The books in numbers (01, "One tick of the scheduler"; case 13): what was brought is what was done and what is still owed, not more and not less.
use mathlib.Core.List.{List, [], ◌∷◌}
use mathlib.Core.Path.{◌≡◌, refl}
use native.Mathlib.Omega.{arith}
use Prim.Native.Nat.{ℕ}
use lib.ListN.{take}
use Rattle.demand.specs.Refusals.{table_refusal, table_tests}
use Rattle.demand.specs.Rows.{some, tasks_of, handlers_of}
use Rattle.demand.specs.Tests.{first_refusal}
use Rattle.machine.specs.Live.{due_of}
use Rattle.machine.specs.Schedules.{beats}
use Rattle.scheduler.specs.Books.{sum, brought_by, busy_by, owed_in}
use Rattle.scheduler.specs.Bounds.{out_of_bounds}
use Rattle.scheduler.specs.Reached.{offered_by, offered}
use Rattle.scheduler.specs.Scans.{any, first_of, filled, used}
use Rattle.scheduler.specs.Start.{padded, zeros, fresh_run, fresh_of}
use Rattle.scheduler.specs.Steps.{step_tests, step_refusal, step_by}
use Rattle.scheduler.specs.Tick.{next_arrived, due_arrived, owed_arrived, earliest, goes_to, late_row, ticked_by}
use Rattle.scheduler.proofs.Books.{balance}
use Rattle.guarantees.specs.Patterns.{pattern_to}
use Rattle.guarantees.specs.Synchronous.{beat_of}
use Rattle.guarantees.proofs.Instances.Cases.{tasks-6, handlers-6, ready-6, tasks-9, handlers-9, ready-9}

-- ---- case 13: 7 at tick 0, 1 at 4, 2 at 5 and 5 at 8 are brought; all ten ticks are used; 1 and 4 are still owed

abbrev pub offers-13 : List (List ℕ)
offers-13 = pattern_to (beat_of tasks-9 handlers-9) 10

brought-13 : brought_by due_of offers-13 (fresh_of tasks-9 handlers-9).run ≡ 15
unfolding sum brought_by pattern_to beat_of beats fresh_of fresh_run table_refusal first_refusal table_tests some tasks_of handlers_of padded zeros step_by step_refusal step_tests out_of_bounds any used ticked_by next_arrived due_arrived owed_arrived filled goes_to earliest first_of late_row
brought-13 = refl

busy-13 : busy_by due_of offers-13 (fresh_of tasks-9 handlers-9).run ≡ 10
unfolding busy_by pattern_to beat_of beats fresh_of fresh_run table_refusal first_refusal table_tests some tasks_of handlers_of padded zeros step_by step_refusal step_tests out_of_bounds any used ticked_by next_arrived due_arrived owed_arrived filled goes_to earliest first_of late_row
busy-13 = refl

-- So by the books 5 are owed, ..
pub owed-13 : owed_in (offered offers-13 (fresh_of tasks-9 handlers-9).run) ≡ 5
owed-13 = omega (arith, balance due_of tasks-9 handlers-9 ready-9 offers-13, brought-13, busy-13)

-- .. as the run has it.
rows-owed-13 : take 3 (offered offers-13 (fresh_of tasks-9 handlers-9).run).owed ≡ 1 ∷ 4 ∷ 0 ∷ []
unfolding offered_by pattern_to beat_of beats fresh_of fresh_run table_refusal first_refusal table_tests some tasks_of handlers_of padded zeros step_by step_refusal step_tests out_of_bounds any used ticked_by next_arrived due_arrived owed_arrived filled goes_to earliest first_of late_row
rows-owed-13 = refl

-- ---- case 6 with a refused step and an idle tick among its offers: all 3 that were accepted are done, the refused 1 was not brought

abbrev offers-6 : List (List ℕ)
offers-6 = (1 ∷ 2 ∷ []) ∷ (1 ∷ 0 ∷ []) ∷ (0 ∷ 0 ∷ []) ∷ (0 ∷ 0 ∷ []) ∷ (0 ∷ 0 ∷ []) ∷ []

brought-6 : brought_by due_of offers-6 (fresh_of tasks-6 handlers-6).run ≡ 3
unfolding sum brought_by fresh_of fresh_run table_refusal first_refusal table_tests some tasks_of handlers_of padded zeros step_by step_refusal step_tests out_of_bounds any used ticked_by next_arrived due_arrived owed_arrived filled goes_to earliest first_of late_row
brought-6 = refl

owed-6 : owed_in (offered offers-6 (fresh_of tasks-6 handlers-6).run) ≡ 0
unfolding sum owed_in offered_by fresh_of fresh_run table_refusal first_refusal table_tests some tasks_of handlers_of padded zeros step_by step_refusal step_tests out_of_bounds any used ticked_by next_arrived due_arrived owed_arrived filled goes_to earliest first_of late_row
owed-6 = refl

pub busy-6 : busy_by due_of offers-6 (fresh_of tasks-6 handlers-6).run ≡ 3
busy-6 = omega (arith, balance due_of tasks-6 handlers-6 ready-6 offers-6, brought-6, owed-6)
