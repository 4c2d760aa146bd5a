-- Fixed priorities, in numbers: a table whose tasks have lengths, the second before the first, run over a legal pattern; and one whose
-- second task has none, though it fits under the earliest deadline.
use mathlib.Core.Bool.{true, false}
use mathlib.Core.List.{List, [], ◌∷◌}
use mathlib.Core.Path.{◌≡◌, refl, ◌∙◌}
use native.Mathlib.Omega.{arith}
use Prim.Native.Nat.{ℕ, zero, suc, ◌+◌, ◌≤◌, ◌<◌}
use lib.ListN.{length, get_or}
use Rattle.demand.specs.declared.refusal.Refusal.{Refusal}
use Rattle.std.specs.Prelude.{None, Some, Result, Ok}
use Rattle.demand.proofs.Refusals.{refusal-in-range}
use Rattle.demand.specs.Demands.{called}
use Rattle.demand.specs.Limits.{ticks_most}
use Rattle.demand.specs.Multiples.{lcm_from}
use Rattle.demand.specs.Refusals.{table_refusal, table_tests}
use Rattle.demand.specs.Rows.{some, total, row_at, tasks_of, handlers_of}
use Rattle.demand.specs.Tests.{first_refusal}
use Rattle.euclid.specs.Euclid.{gcd, lcm, euclid}
use Rattle.machine.specs.Live.{period_of}
use Rattle.machine.specs.Schedules.{beats}
use Rattle.priority.specs.Answers as priority
use Rattle.priority.specs.Asked.{asked_from, asked}
use Rattle.priority.specs.Responses.{least_to, response, leasts}
use Rattle.priority.proofs.Answers.{found-says}
use Rattle.scheduler.specs.Bounds.{out_of_bounds}
use Rattle.scheduler.specs.Reached.{offered_by}
use Rattle.scheduler.specs.Scans.{any, first_of, filled, used}
use Rattle.scheduler.specs.Start.{fresh_of, fresh_run, padded, zeros}
use Rattle.scheduler.specs.Steps.{step_by, step_tests, step_refusal}
use Rattle.scheduler.specs.Tick.{next_arrived, due_arrived, owed_arrived, earliest, goes_to, late_row, ticked_by}
use Rattle.verdict.proofs.Facts.Ends.{nothing-fails}
use Rattle.verdict.proofs.Lightening.{only-fits}
use Rattle.verdict.specs.Facts.{bound}
use Rattle.verdict.specs.Loads.{work, whole, costs, slack}
use Rattle.verdict.specs.Multiples.{common}
use Rattle.verdict.specs.Promise.{figures, verdict_refusal, VerdictSays}
use Rattle.verdict.specs.Promise.Word.{fits}
use Rattle.verdict.specs.declared.Answer.{Answer}
use Rattle.guarantees.specs.LegalArrivals.{Accepted}
use Rattle.guarantees.specs.LegalOnTime.{OnTimeAt, NeverOver}
use Rattle.guarantees.specs.Patterns.{rows_in, pattern_to, run_by, LegalPattern}
use Rattle.guarantees.specs.Priority.{EachResponds, LateBy}
use Rattle.guarantees.specs.Synchronous.{beat_of, sync_run_by}
use Rattle.guarantees.proofs.Instances.Legal.{twice, twice-apart, twice_most}
use Rattle.guarantees.proofs.Priority.Late.{late-by-priority}
use Rattle.guarantees.proofs.Priority.NeverLate.{never-late-by-priority, on-time-by-priority, fits-by-deadline}
use Rattle.guarantees.proofs.Priority.Said.{says-length}

-- The answer to a table that is not refused.
abbrev profile_of : List ℕ → List ℕ → Result (List ℕ) Refusal
profile_of t h = Ok (leasts (tasks_of t) (handlers_of h))

profile-says : (t h : List ℕ) → table_refusal t h ≡ 0 → priority.ResponsesSay t h (profile_of t h)
profile-says t h e = found-says t h (leasts (tasks_of t) (handlers_of h)) e refl

profile-accepted : (t h : List ℕ) → (priority.figures (profile_of t h)).code ≡ 0
unfolding priority.figures
profile-accepted t h = refl

-- ---- tasks 2/6 and 1/4, handler 1/5: the second task comes first

abbrev tasks-a : List ℕ
tasks-a = 2 ∷ 6 ∷ 6 ∷ 1 ∷ 4 ∷ 4 ∷ []

abbrev handlers-a : List ℕ
handlers-a = 1 ∷ 5 ∷ []

table-a : table_refusal tasks-a handlers-a ≡ 0
unfolding table_refusal first_refusal table_tests some tasks_of handlers_of
table-a = refl

response-a0 : response (tasks_of tasks-a) (handlers_of handlers-a) 0 ≡ 4
unfolding response least_to asked asked_from called total tasks_of handlers_of
response-a0 = refl

response-a1 : response (tasks_of tasks-a) (handlers_of handlers-a) 1 ≡ 2
unfolding response least_to asked asked_from called total tasks_of handlers_of
response-a1 = refl

two_a : length (tasks_of tasks-a) ≡ 2
unfolding tasks_of
two_a = refl

pub each-a : EachResponds tasks-a handlers-a (profile_of tasks-a handlers-a)
each-a = record { says = profile-says tasks-a handlers-a table-a; accepted = profile-accepted tasks-a handlers-a; each = each }
  where
    is : (i : ℕ) → i < length (tasks_of tasks-a) → get_or (priority.figures (profile_of tasks-a handlers-a)).least i 0 ≡ response (tasks_of tasks-a) (handlers_of handlers-a) i
    is = says-length tasks-a handlers-a (profile_of tasks-a handlers-a) (profile-says tasks-a handlers-a table-a) (profile-accepted tasks-a handlers-a)

    each : (i : ℕ) → i < length (tasks_of tasks-a) → 0 < get_or (priority.figures (profile_of tasks-a handlers-a)).least i 0
    each zero place = omega (arith, is 0 place, response-a0)
    each (suc zero) place = omega (arith, is 1 place, response-a1)
    each (suc (suc i)) place = absurd (omega (arith, two_a))

pub never-late-a : NeverOver period_of tasks-a handlers-a
never-late-a = never-late-by-priority tasks-a handlers-a (profile_of tasks-a handlers-a) each-a

-- The first task at ticks 0 and 6, the second at 1 and 5, the handler at 2 and 7: a period apart, or little more.
pub arrivals-a : ℕ → List ℕ
arrivals-a n = twice 0 2 6 2 n ∷ twice 1 1 5 1 n ∷ twice 2 1 7 1 n ∷ []

pub legal-a : LegalPattern tasks-a handlers-a arrivals-a
unfolding arrivals-a tasks_of handlers_of
legal-a = record { count = λ n. refl; in-cost = in-cost; apart = apart }
  where
    in-cost : (n k : ℕ) → k < 3 → get_or (arrivals-a n) k 0 ≤ (row_at (rows_in tasks-a handlers-a) k).cost
    in-cost n zero l = twice_most 0 2 6 2 2 n (omega arith) (omega arith)
    in-cost n (suc zero) l = twice_most 1 1 5 1 1 n (omega arith) (omega arith)
    in-cost n (suc (suc zero)) l = twice_most 2 1 7 1 1 n (omega arith) (omega arith)
    in-cost n (suc (suc (suc k))) l = absurd (omega arith)

    apart : (m n k : ℕ) → k < 3 → m < n → 0 < get_or (arrivals-a m) k 0 → 0 < get_or (arrivals-a n) k 0
        → m + (row_at (rows_in tasks-a handlers-a) k).period ≤ n
    apart m n zero l = twice-apart 0 2 6 2 6 m n (omega arith)
    apart m n (suc zero) l = twice-apart 1 1 5 1 4 m n (omega arith)
    apart m n (suc (suc zero)) l = twice-apart 2 1 7 1 5 m n (omega arith)
    apart m n (suc (suc (suc k))) l = absurd (omega arith)

pub on-time-a : (n : ℕ) → n < ticks_most → OnTimeAt period_of tasks-a handlers-a arrivals-a n
on-time-a = on-time-by-priority tasks-a handlers-a (profile_of tasks-a handlers-a) each-a arrivals-a legal-a

-- At tick 6 the first task comes again and is accepted; to the last tick nobody is late.
pub again-a : Accepted (run_by period_of tasks-a handlers-a arrivals-a 6) (2 ∷ 0 ∷ 0 ∷ [])
unfolding arrivals-a twice
again-a = (on-time-a 6 (omega arith)).accepted

pub last-tick-a : (run_by period_of tasks-a handlers-a arrivals-a 999999999).clock ≡ 999999999
last-tick-a = (on-time-a 999999999 (omega arith)).clock

pub last-late-a : (run_by period_of tasks-a handlers-a arrivals-a 999999999).late ≡ None
last-late-a = (on-time-a 999999999 (omega arith)).late

-- And the verdict is a yes.
readable-a : verdict_refusal tasks-a handlers-a ≡ 0
unfolding verdict_refusal first_refusal table_tests some common lcm_from lcm gcd euclid tasks_of handlers_of
readable-a = refl

pub fits-a : (r : Result Answer Refusal) → VerdictSays tasks-a handlers-a r → (figures r).word ≡ fits
fits-a r says = fits-by-deadline tasks-a handlers-a (profile_of tasks-a handlers-a) r each-a readable-a says

-- ---- tasks 2/5 and 4/7: the second has no length, and the synchronous run by priority is over by 7

abbrev tasks-b : List ℕ
tasks-b = 2 ∷ 5 ∷ 5 ∷ 4 ∷ 7 ∷ 7 ∷ []

table-b : table_refusal tasks-b [] ≡ 0
unfolding table_refusal first_refusal table_tests some tasks_of handlers_of
table-b = refl

response-b1 : response (tasks_of tasks-b) (handlers_of []) 1 ≡ 0
unfolding response least_to asked asked_from called total tasks_of handlers_of
response-b1 = refl

place-b : 1 < length (tasks_of tasks-b)
unfolding tasks_of
place-b = omega arith

pub late-b : LateBy tasks-b [] 1
late-b =
    let says = profile-says tasks-b [] table-b in
    let accepted = profile-accepted tasks-b [] in
    late-by-priority tasks-b [] (profile_of tasks-b []) says accepted 1 place-b
    (says-length tasks-b [] (profile_of tasks-b []) says accepted 1 place-b ∙ response-b1)

-- The same run, computed: not over at 6, over at 7, and task 1 is late.
going-b : (sync_run_by period_of tasks-b [] 6).over ≡ false
unfolding beat_of pattern_to beats offered_by fresh_of fresh_run table_refusal first_refusal table_tests some tasks_of handlers_of padded zeros step_by step_refusal step_tests out_of_bounds any used ticked_by next_arrived due_arrived owed_arrived filled goes_to earliest first_of late_row
going-b = refl

over-b : (sync_run_by period_of tasks-b [] 7).over ≡ true
unfolding beat_of pattern_to beats offered_by fresh_of fresh_run table_refusal first_refusal table_tests some tasks_of handlers_of padded zeros step_by step_refusal step_tests out_of_bounds any used ticked_by next_arrived due_arrived owed_arrived filled goes_to earliest first_of late_row
over-b = refl

late-row-b : (sync_run_by period_of tasks-b [] 7).late ≡ Some 1
unfolding beat_of pattern_to beats offered_by fresh_of fresh_run table_refusal first_refusal table_tests some tasks_of handlers_of padded zeros step_by step_refusal step_tests out_of_bounds any used ticked_by next_arrived due_arrived owed_arrived filled goes_to earliest first_of late_row
late-row-b = refl

-- Under the earliest deadline it fits: the reverse of `fits-by-deadline` does not hold.
readable-b : verdict_refusal tasks-b [] ≡ 0
unfolding verdict_refusal first_refusal table_tests some common lcm_from lcm gcd euclid tasks_of handlers_of
readable-b = refl

light-b : whole (tasks_of tasks-b) (handlers_of []) ≤ common (tasks_of tasks-b) (handlers_of [])
unfolding whole work total common lcm_from lcm gcd euclid tasks_of handlers_of
light-b = omega arith

bound-b : bound (tasks_of tasks-b) (handlers_of []) ≡ 0
unfolding bound costs slack total common lcm_from lcm gcd euclid tasks_of handlers_of
bound-b = refl

pub fits-b : (r : Result Answer Refusal) → VerdictSays tasks-b [] r → (figures r).word ≡ fits
unfolding VerdictSays
fits-b r says =
    only-fits tasks-b [] (figures r) readable-b
    (nothing-fails (tasks_of tasks-b) (handlers_of []) (refusal-in-range tasks-b [] table-b) light-b bound-b) says
