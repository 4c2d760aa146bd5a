-- No hypothesis of the guarantees is empty: cases 6 and 9 (01, "Sums done by hand") run through each of them, and what they say of case 9 is computed beside it; so do two tables with a deadline before the next arrival (02, M-101).
use mathlib.Core.Bool.{true, false}
use mathlib.Core.List.{List, [], ◌∷◌}
use mathlib.Core.Path.{◌≡◌, refl, sym, ◌∙◌}
use native.Mathlib.Omega.{arith}
use Prim.Native.Nat.{ℕ, ◌≤◌}
use Rattle.demand.specs.declared.refusal.Refusal.{Refusal}
use Rattle.std.specs.Prelude.{Ok, Some, Result}
use Rattle.demand.specs.Demands.{called, grow, taken, handled, left, due}
use Rattle.demand.specs.Refusals.{table_refusal, table_tests}
use Rattle.demand.specs.Tests.{first_refusal}
use Rattle.demand.specs.Rows.{some, total, tasks_of, handlers_of}
use Rattle.verdict.proofs.Cases.{same, alike, short, drain, idled, idle_facts, facts, beside, expected, holds, holds-says, cases-hold}
use Rattle.verdict.proofs.Lightening.{says-fits}
use Rattle.verdict.specs.Cases.{Case, plain, cases}
use Rattle.verdict.specs.Inside.Search.{end_by, search_end}
use Rattle.verdict.specs.Facts.{bound}
use Rattle.verdict.specs.Loads.{work, whole, costs, slack, millionths, load}
use Rattle.euclid.specs.Euclid.{gcd, lcm, euclid}
use Rattle.demand.specs.Multiples.{lcm_from}
use Rattle.verdict.specs.Multiples.{common}
use Rattle.verdict.specs.Idle.{asks}
use Rattle.verdict.specs.Tested.{tested, yes_end_by, yes_end}
use Rattle.verdict.specs.Promise.{figures, verdict_refusal, SaysFits, VerdictSays}
use Rattle.verdict.specs.Promise.Word.{fits, misses}
use Rattle.verdict.specs.declared.Answer.{Answer}
use Rattle.verdict.specs.declared.Answer.TheVariants as verdict
use Rattle.scheduler.specs.Bounds.{out_of_bounds}
use Rattle.guarantees.specs.LegalArrivals.{Accepted, LegalOnly}
use Rattle.guarantees.specs.Patterns.{pattern_to}
use Rattle.guarantees.specs.Synchronous.{beat_of, sync_run}
use Rattle.guarantees.specs.LateExactly.{LateAt}
use Rattle.guarantees.specs.OurRun.{Ours}
use Rattle.machine.specs.Live.{Live, due_of}
use Rattle.scheduler.specs.Reached.{offered, offered_by}
use Rattle.scheduler.specs.Scans.{at, any, first_of, filled, used}
use Rattle.machine.specs.Schedules.{Timely, beats}
use Rattle.machine.specs.Machine.{sync}
use Rattle.scheduler.specs.Start.{fresh_of, fresh_run, padded, zeros}
use Rattle.scheduler.specs.Steps.{step_of, step_by, step_tests, step_refusal}
use Rattle.scheduler.specs.Tick.{next_arrived, due_arrived, owed_arrived, earliest, goes_to, late_row, ticked_by}
use Rattle.guarantees.proofs.PeriodApart.{period-apart}
use Rattle.scheduler.proofs.Reached.{fresh-in-bounds}
use Rattle.guarantees.proofs.LateExactly.{late-exactly}
use Rattle.guarantees.proofs.LegalArrivals.{legal-arrivals}
use Rattle.guarantees.proofs.NeverLate.{never-late}
use Rattle.guarantees.proofs.NoScheduler.{no-scheduler, ours-is-one, optimal, fits-met}
use Rattle.guarantees.proofs.OurRun.{our-run}

-- ---- case 6: task 1/3, handler 2/10. A yes.

abbrev pub tasks-6 : List ℕ
tasks-6 = 1 ∷ 3 ∷ 3 ∷ []

abbrev pub handlers-6 : List ℕ
handlers-6 = 2 ∷ 10 ∷ []

abbrev pub answer-6 : Result Answer Refusal
answer-6 = Ok (verdict.Fits 533334 1)

pub says-6 : VerdictSays tasks-6 handlers-6 answer-6
unfolding VerdictSays figures cases plain
says-6 = cases-hold.1.1.1.1.1.0.holds

pub word-6 : (figures answer-6).word ≡ fits
unfolding figures
word-6 = refl

-- Whatever is offered, the run is not over; ..
pub never-late-6 : (offers : List (List ℕ)) → (offered offers (fresh_of tasks-6 handlers-6).run).over ≡ false
never-late-6 = never-late tasks-6 handlers-6 answer-6 says-6 word-6

-- .. and some offers are accepted: both rows at once, at full cost.
pub ready-6 : (fresh_of tasks-6 handlers-6).answer ≡ Ok tt
unfolding fresh_of table_refusal first_refusal table_tests some tasks_of handlers_of
ready-6 = refl

pub accepted-6 : Accepted (fresh_of tasks-6 handlers-6).run (1 ∷ 2 ∷ [])
unfolding fresh_of fresh_run table_refusal first_refusal table_tests some tasks_of handlers_of padded zeros step_refusal step_tests out_of_bounds any used
accepted-6 = refl

-- What is accepted there is what is legal.
pub legal-6 : (ws : List ℕ) → LegalOnly (fresh_of tasks-6 handlers-6).run ws
unfolding fresh_of fresh_run table_refusal first_refusal table_tests some tasks_of handlers_of
legal-6 ws = legal-arrivals (fresh_of tasks-6 handlers-6).run ws (fresh-in-bounds tasks-6 handlers-6 ready-6) refl (omega arith)

-- The task may come again after its period of 3 ticks: two ticks without it between.
abbrev between-6 : List (List ℕ)
between-6 = (0 ∷ 0 ∷ []) ∷ (0 ∷ 0 ∷ []) ∷ []

again-6 : Accepted (offered between-6 (step_of (fresh_of tasks-6 handlers-6).run (1 ∷ 2 ∷ [])).run) (1 ∷ 0 ∷ [])
unfolding offered_by fresh_of fresh_run table_refusal first_refusal table_tests some tasks_of handlers_of padded zeros step_by step_refusal step_tests out_of_bounds any used ticked_by next_arrived due_arrived owed_arrived filled goes_to earliest first_of late_row
again-6 = refl

pub apart-6 : 3 ≤ (offered between-6 (step_of (fresh_of tasks-6 handlers-6).run (1 ∷ 2 ∷ [])).run).clock
unfolding fresh_of fresh_run table_refusal first_refusal table_tests some tasks_of handlers_of padded
apart-6 = period-apart due_of (fresh_of tasks-6 handlers-6).run (1 ∷ 2 ∷ []) (1 ∷ 0 ∷ []) between-6 0 (fresh-in-bounds tasks-6 handlers-6 ready-6) (omega arith) accepted-6 (omega arith) again-6 (omega arith)

-- Some schedule meets every deadline for ever, ours: so whatever the promise allows is a yes.
pub optimal-6 : (r : Result Answer Refusal) → VerdictSays tasks-6 handlers-6 r → (figures r).word ≡ fits
unfolding VerdictSays
optimal-6 r says =
    let saying : SaysFits tasks-6 handlers-6 (figures answer-6) = says-fits tasks-6 handlers-6 (figures answer-6) word-6 says-6 in
    optimal tasks-6 handlers-6 r saying.readable says (fits-met tasks-6 handlers-6 answer-6 says-6 word-6)

-- ---- case 9: tasks 2/5 and 4/8, handler 1/4. A no, at 10.

abbrev pub tasks-9 : List ℕ
tasks-9 = 2 ∷ 5 ∷ 5 ∷ 4 ∷ 8 ∷ 8 ∷ []

abbrev pub handlers-9 : List ℕ
handlers-9 = 1 ∷ 4 ∷ []

abbrev pub answer-9 : Result Answer Refusal
answer-9 = Ok (verdict.Misses (record { interval = 10; handler = 3; task = 8; left = 0; tested = 3 }) 1150000)

pub says-9 : VerdictSays tasks-9 handlers-9 answer-9
unfolding VerdictSays figures cases plain
says-9 = cases-hold.1.1.1.1.1.1.1.1.0.holds

pub word-9 : (figures answer-9).word ≡ misses
unfolding figures
word-9 = refl

-- The ten synchronous ticks are accepted, the run is over at clock 10 and not before.
pub late-9 : LateAt tasks-9 handlers-9 10
unfolding figures
late-9 = late-exactly tasks-9 handlers-9 answer-9 says-9 word-9

-- The same run, computed tick by tick: over at clock 10, and task 0 is late.
over-9 : (sync_run tasks-9 handlers-9 10).over ≡ true
unfolding beat_of pattern_to beats offered_by fresh_of fresh_run table_refusal first_refusal table_tests some tasks_of handlers_of padded zeros step_by step_refusal step_tests out_of_bounds any used ticked_by next_arrived due_arrived owed_arrived filled goes_to earliest first_of late_row
over-9 = refl

late-row-9 : (sync_run tasks-9 handlers-9 10).late ≡ Some 0
unfolding beat_of pattern_to beats offered_by fresh_of fresh_run table_refusal first_refusal table_tests some tasks_of handlers_of padded zeros step_by step_refusal step_tests out_of_bounds any used ticked_by next_arrived due_arrived owed_arrived filled goes_to earliest first_of late_row
late-row-9 = refl

-- So task 0 is the first task owed work with its deadline at 10.
pub first-late-9 :
    late_row 10 (at (sync_run tasks-9 handlers-9 10).due) (sync_run tasks-9 handlers-9 10).owed (sync_run tasks-9 handlers-9 10).task_count
    ≡ Some 0
first-late-9 = sym late-9.late ∙ late-row-9

-- No schedule that puts handlers first meets every deadline up to clock 10, ..
pub no-schedule-9 : (xs ys : List Live) → ¬ Timely (tasks_of tasks-9) (handlers_of handlers-9) 10 xs ys
unfolding figures
no-schedule-9 = no-scheduler tasks-9 handlers-9 answer-9 says-9 word-9

-- .. but ours meets every one up to clock 9, as the machine runs it and as `fresh` and `step` do.
pub ours-9 : Timely (tasks_of tasks-9) (handlers_of handlers-9) 9 (sync 9 (tasks_of tasks-9) (handlers_of handlers-9)).tasks (sync 9 (tasks_of tasks-9) (handlers_of handlers-9)).handlers
unfolding figures
ours-9 = ours-is-one tasks-9 handlers-9 answer-9 says-9 word-9 9 (omega arith)

pub ready-9 : (fresh_of tasks-9 handlers-9).answer ≡ Ok tt
unfolding fresh_of table_refusal first_refusal table_tests some tasks_of handlers_of
ready-9 = refl

pub our-run-9 : Ours tasks-9 handlers-9 9
our-run-9 = our-run tasks-9 handlers-9 ready-9 9 (omega arith) (late-9.on-time 9 (omega arith))

-- ---- task 1/4 with deadline 2, handler 2/10. A no, at 2: the handler takes both ticks that the task has, f(2) = 2 and D(2) = 1.

abbrev pub tasks-2 : List ℕ
tasks-2 = 1 ∷ 4 ∷ 2 ∷ []

abbrev pub handlers-2 : List ℕ
handlers-2 = 2 ∷ 10 ∷ []

abbrev pub answer-2 : Result Answer Refusal
answer-2 = Ok (verdict.Misses (record { interval = 2; handler = 2; task = 1; left = 0; tested = 1 }) 450000)

abbrev case-2 : Case
case-2 = record { tasks = tasks-2; handlers = handlers-2; sheet = figures answer-2; beside = [] }

pub sheet-2 : holds case-2 ≡ true
unfolding figures holds same facts beside idle_facts drain idled asks tested yes_end yes_end_by alike expected short search_end bound end_by verdict_refusal first_refusal table_tests load whole work costs slack millionths common lcm_from lcm gcd euclid handled called left taken grow due total some tasks_of handlers_of
sheet-2 = refl

pub says-2 : VerdictSays tasks-2 handlers-2 answer-2
unfolding VerdictSays
says-2 = (holds-says case-2 sheet-2).holds

pub word-2 : (figures answer-2).word ≡ misses
unfolding figures
word-2 = refl

-- The two synchronous ticks are accepted, and the run is over at clock 2, ..
pub late-2 : LateAt tasks-2 handlers-2 2
unfolding figures
late-2 = late-exactly tasks-2 handlers-2 answer-2 says-2 word-2

-- .. which is before the task may come again, as the same run computes tick by tick.
late-row-2 : (sync_run tasks-2 handlers-2 2).late ≡ Some 0
unfolding beat_of pattern_to beats offered_by fresh_of fresh_run table_refusal first_refusal table_tests some tasks_of handlers_of padded zeros step_by step_refusal step_tests out_of_bounds any used ticked_by next_arrived due_arrived owed_arrived filled goes_to earliest first_of late_row
late-row-2 = refl

next-2 : at (sync_run tasks-2 handlers-2 2).next 0 ≡ 4
unfolding beat_of pattern_to beats offered_by fresh_of fresh_run table_refusal first_refusal table_tests some tasks_of handlers_of padded zeros step_by step_refusal step_tests out_of_bounds any used ticked_by next_arrived due_arrived owed_arrived filled goes_to earliest first_of late_row
next-2 = refl

pub no-schedule-2 : (xs ys : List Live) → ¬ Timely (tasks_of tasks-2) (handlers_of handlers-2) 2 xs ys
unfolding figures
no-schedule-2 = no-scheduler tasks-2 handlers-2 answer-2 says-2 word-2

-- ---- with deadline 3 it is a yes

abbrev pub tasks-3 : List ℕ
tasks-3 = 1 ∷ 4 ∷ 3 ∷ []

abbrev pub answer-3 : Result Answer Refusal
answer-3 = Ok (verdict.Fits 450000 1)

abbrev case-3 : Case
case-3 = record { tasks = tasks-3; handlers = handlers-2; sheet = figures answer-3; beside = [] }

pub sheet-3 : holds case-3 ≡ true
unfolding figures holds same facts beside idle_facts drain idled asks tested yes_end yes_end_by alike expected short search_end bound end_by verdict_refusal first_refusal table_tests load whole work costs slack millionths common lcm_from lcm gcd euclid handled called left taken grow due total some tasks_of handlers_of
sheet-3 = refl

pub says-3 : VerdictSays tasks-3 handlers-2 answer-3
unfolding VerdictSays
says-3 = (holds-says case-3 sheet-3).holds

pub word-3 : (figures answer-3).word ≡ fits
unfolding figures
word-3 = refl

pub never-late-3 : (offers : List (List ℕ)) → (offered offers (fresh_of tasks-3 handlers-2).run).over ≡ false
never-late-3 = never-late tasks-3 handlers-2 answer-3 says-3 word-3
