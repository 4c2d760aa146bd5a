-- What a step accepts, where its tick goes and which runs are in bounds, in numbers, from the statements about every run.
use mathlib.Core.Bool.{true, false}
use mathlib.Core.List.{List, [], ◌∷◌}
use mathlib.Core.Path.{◌≡◌, refl}
use native.Mathlib.Omega.{arith}
use Prim.Native.Nat.{ℕ, zero, suc, ◌≤◌, ◌<◌}
use lib.ListN.{get_or}
use Rattle.std.specs.Prelude.{None, Ok}
use Rattle.demand.specs.Refusals.{table_refusal, table_tests}
use Rattle.demand.specs.Rows.{some, tasks_of, handlers_of}
use Rattle.demand.specs.Tests.{first_refusal}
use Rattle.machine.specs.Live.{due_of}
use Rattle.scheduler.specs.Bounds.{out_of_bounds, InBounds}
use Rattle.scheduler.specs.Promise.{FreshSays, StepSays}
use Rattle.scheduler.specs.Reached.{offered_by, offered}
use Rattle.scheduler.specs.Runs.{run_of}
use Rattle.scheduler.specs.Scans.{any, first_of, filled, used}
use Rattle.scheduler.specs.Start.{padded, zeros, fresh_run, fresh_of}
use Rattle.scheduler.specs.Steps.{step_tests, step_refusal, step_by, step_of}
use Rattle.scheduler.specs.Tick.{next_arrived, due_arrived, owed_arrived, GoesTo, earliest, goes_to, late_row, ticked_by, owed_with, key_in}
use Rattle.scheduler.specs.declared.Fresh.{Fresh}
use Rattle.scheduler.specs.declared.Ran.{Ran}
use Rattle.scheduler.specs.declared.Ran.TheVariants.{Task}
use Rattle.scheduler.specs.declared.Run.{Run}
use Rattle.scheduler.specs.declared.Stepped.{Stepped}
use Rattle.scheduler.specs.declared.Ticked.{Ticked}
use Rattle.scheduler.proofs.Promise.{fresh-says, step-says, fresh-unique, step-unique}
use Rattle.scheduler.proofs.Reached.{always-in-bounds}
use Rattle.scheduler.proofs.Rule.{tick-rule, only_one}
use Rattle.guarantees.specs.LegalArrivals.{Accepted, LegalArrival}
use Rattle.guarantees.proofs.Instances.Books.{offers-13}
use Rattle.guarantees.proofs.Instances.Cases.{tasks-6, handlers-6, legal-6, tasks-9, handlers-9, ready-9}

-- ---- what a step of case 6 accepts: task 1/3, handler 2/10

abbrev run-6 : Run
run-6 = (fresh_of tasks-6 handlers-6).run

-- One number a row: not one for two, ..
one-short : ¬ Accepted run-6 (0 ∷ [])
unfolding fresh_of fresh_run table_refusal first_refusal table_tests some tasks_of handlers_of
one-short a = let count : ◌≡◌ {A = ℕ} 1 2 = (legal-6 (0 ∷ [])).count a in omega arith

-- .. none above its cost, ..
one-heavy : ¬ Accepted run-6 (2 ∷ 0 ∷ [])
unfolding fresh_of fresh_run table_refusal first_refusal table_tests some tasks_of handlers_of padded
one-heavy a = let light : 2 ≤ 1 = ((legal-6 (2 ∷ 0 ∷ [])).legal a 0 (omega arith)).in-cost in omega arith

-- .. and then it is accepted, with all of its cost too.
pub both-full : Accepted run-6 (1 ∷ 2 ∷ [])
unfolding fresh_of fresh_run table_refusal first_refusal table_tests some tasks_of handlers_of padded zeros
both-full = (legal-6 (1 ∷ 2 ∷ [])).accepted refl each
  where
    each : (k : ℕ) → k < 2 → LegalArrival run-6 k (get_or (1 ∷ 2 ∷ []) k 0)
    each zero l = record { in-time = λ some. omega arith; in-cost = omega arith }
    each (suc zero) l = record { in-time = λ some. omega arith; in-cost = omega arith }
    each (suc (suc k)) l = absurd (omega arith)

-- The task may come again at 3, and without an arrival as before.
pub again-at-3 : get_or (step_of run-6 (1 ∷ 2 ∷ [])).run.next 0 0 ≡ 3
unfolding fresh_of fresh_run table_refusal first_refusal table_tests some tasks_of handlers_of padded
again-at-3 = (legal-6 (1 ∷ 2 ∷ [])).apart due_of both-full 0 (omega arith) (omega arith)

-- Case 14: at 0 and again at 2 is 10; at 3 it is not.
abbrev after : List (List ℕ) → Run
after offers = offered offers run-6

case-14 : step_refusal (after ((1 ∷ 0 ∷ []) ∷ (0 ∷ 0 ∷ []) ∷ [])) (1 ∷ 0 ∷ []) ≡ 10
unfolding offered_by fresh_of fresh_run table_refusal first_refusal table_tests some tasks_of handlers_of padded zeros step_by step_refusal step_tests out_of_bounds any used ticked_by next_arrived due_arrived owed_arrived filled goes_to earliest first_of late_row
case-14 = refl

at-3 : step_refusal (after ((1 ∷ 0 ∷ []) ∷ (0 ∷ 0 ∷ []) ∷ (0 ∷ 0 ∷ []) ∷ [])) (1 ∷ 0 ∷ []) ≡ 0
unfolding offered_by fresh_of fresh_run table_refusal first_refusal table_tests some tasks_of handlers_of padded zeros step_by step_refusal step_tests out_of_bounds any used ticked_by next_arrived due_arrived owed_arrived filled goes_to earliest first_of late_row
at-3 = refl

-- ---- the tick rule of tasks 1/8 and 1/4: to task 1, whose deadline 4 is before 8, and to nobody else

abbrev run-8 : Run
run-8 = (fresh_of (1 ∷ 8 ∷ 8 ∷ 1 ∷ 4 ∷ 4 ∷ []) []).run

abbrev both : List ℕ
both = 1 ∷ 1 ∷ []

abbrev ran-1 : Ticked
ran-1 = record { ran = Task 1; late = None }

goes-to-1 : (step_of run-8 both).answer ≡ Ok ran-1
unfolding fresh_of fresh_run table_refusal first_refusal table_tests some tasks_of handlers_of padded zeros step_by step_refusal step_tests out_of_bounds any used ticked_by next_arrived due_arrived owed_arrived filled goes_to earliest first_of late_row
goes-to-1 = refl

abbrev GoesThere : Ran → Type 0
GoesThere ran = GoesTo (key_in due_of run-8 both) (owed_with run-8 both) 2 0 ran

rule-8 : GoesThere (Task 1)
unfolding fresh_of fresh_run table_refusal first_refusal table_tests some tasks_of handlers_of
rule-8 = tick-rule due_of run-8 both ran-1 goes-to-1

keys-8 : key_in due_of run-8 both 0 ∷ key_in due_of run-8 both 1 ∷ [] ≡ 8 ∷ 4 ∷ []
unfolding fresh_of fresh_run table_refusal first_refusal table_tests some tasks_of handlers_of padded zeros next_arrived due_arrived owed_arrived filled
keys-8 = refl

-- By the rule alone: task 1 is owed work, its key is the smallest and that of task 0 another.
pub smallest-8 : key_in due_of run-8 both 1 ≤ key_in due_of run-8 both 0
unfolding GoesTo fresh_of fresh_run table_refusal first_refusal table_tests some tasks_of handlers_of padded zeros owed_arrived filled
smallest-8 = rule-8.earliest 0 (omega arith) (omega arith)

pub apart-8 : key_in due_of run-8 both 0 ≡ key_in due_of run-8 both 1 → ⊥
unfolding GoesTo fresh_of fresh_run table_refusal first_refusal table_tests some tasks_of handlers_of padded zeros owed_arrived filled
apart-8 = rule-8.lowest 0 (omega arith) (omega arith)

pub not-to-0 : ¬ GoesThere (Task 0)
not-to-0 other = let same : Task 1 ≡ Task 0 = only_one _ _ 2 0 (Task 1) (Task 0) rule-8 other in absurd (let z : ◌≡◌ {A = ℕ} 1 0 = cc in omega arith)

-- ---- in bounds: the run after case 13, over as it is; a clock above its limit is out of bounds

pub in-bounds-13 : InBounds (offered offers-13 (fresh_of tasks-9 handlers-9).run)
in-bounds-13 = (always-in-bounds due_of tasks-9 handlers-9 ready-9 offers-13).in_bounds

clock-past : out_of_bounds (run_of (padded 192 (2 ∷ 5 ∷ 5 ∷ [])) (zeros 32) 1 0 1000000001 (zeros 80) (zeros 64) (zeros 80) false None) ≡ true
unfolding out_of_bounds tasks_of handlers_of padded zeros any used first_of late_row
clock-past = refl

-- ---- one answer: whatever the promises allow is what the definitions say

pub any-fresh : (a : Fresh) → FreshSays tasks-6 handlers-6 a → a ≡ fresh_of tasks-6 handlers-6
any-fresh a says = fresh-unique tasks-6 handlers-6 a (fresh_of tasks-6 handlers-6) says (fresh-says tasks-6 handlers-6 _ refl)

pub any_step : (a : Stepped) → StepSays due_of run-6 (1 ∷ 2 ∷ []) a → a ≡ step_of run-6 (1 ∷ 2 ∷ [])
any_step a says = step-unique due_of run-6 (1 ∷ 2 ∷ []) a (step_of run-6 (1 ∷ 2 ∷ [])) says (step-says due_of run-6 (1 ∷ 2 ∷ []) _ refl)
