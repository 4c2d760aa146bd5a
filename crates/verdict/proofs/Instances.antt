-- The verdict's statements once more in numbers, so that one that was weakened by a slip no longer gives them (00, demand 3; 01, "The verdict"; 02, M-100 and M-101).
use mathlib.Core.List.{List, [], ◌∷◌}
use mathlib.Core.Logic.{inl, inr}
use mathlib.Core.Path.{◌≡◌, refl}
use native.Mathlib.Omega.{arith}
use Prim.Native.Nat.{ℕ, ◌≤◌}
use Rattle.std.specs.Prelude.{Result}
use Rattle.demand.specs.Demands.{called, grow, taken, handled, due}
use Rattle.demand.specs.Lighter.{Lighter}
use Rattle.demand.specs.Lighter.Lighter.{none, dropped, eased}
use Rattle.demand.specs.Multiples.{lcm_from}
use Rattle.demand.specs.Refusals.{table_tests}
use Rattle.demand.specs.Rows.{Row, tasks_of, handlers_of, total, some}
use Rattle.demand.specs.Tests.{first_refusal}
use Rattle.demand.proofs.Lighter.{called-lighter, due-lighter}
use Rattle.demand.specs.declared.refusal.Refusal.{Refusal}
use Rattle.euclid.specs.Euclid.{gcd, lcm, euclid}
use Rattle.verdict.specs.Full.{LoadTells}
use Rattle.verdict.specs.Lengths.{TestLength, AlwaysPasses}
use Rattle.verdict.specs.Lightening.{YesUnderLess}
use Rattle.verdict.specs.Loads.{work, whole}
use Rattle.verdict.specs.Multiples.{common}
use Rattle.verdict.specs.Promise.{figures, verdict_refusal, VerdictSays}
use Rattle.verdict.specs.Promise.Word.{fits}
use Rattle.verdict.specs.declared.Answer.{Answer}
use Rattle.verdict.proofs.Cases.{short, short-zero}
use Rattle.verdict.proofs.Facts.Ends.{period-ends}
use Rattle.verdict.proofs.Full.{load-tells}
use Rattle.verdict.proofs.Lightening.{yes-under-less, only-fits}
use Rattle.verdict.proofs.Readable.{readable-in-range}

-- ---- a yes, and tables under less: tasks 2/10 with deadline 4 and 3/10 with deadline 8, handler 2/20

abbrev tasks : List ℕ
tasks = 2 ∷ 10 ∷ 4 ∷ 3 ∷ 10 ∷ 8 ∷ []

abbrev handlers : List ℕ
handlers = 2 ∷ 20 ∷ []

readable : verdict_refusal tasks handlers ≡ 0
unfolding verdict_refusal first_refusal table_tests common lcm_from lcm gcd euclid total some tasks_of handlers_of
readable = refl

h-is : common (tasks_of tasks) (handlers_of handlers) ≡ 20
unfolding common lcm_from lcm gcd euclid tasks_of handlers_of
h-is = refl

w-is : whole (tasks_of tasks) (handlers_of handlers) ≡ 12
unfolding whole work common lcm_from lcm gcd euclid total tasks_of handlers_of
w-is = refl

nothing-lacks : short (tasks_of tasks) (handlers_of handlers) 20 ≡ 0
unfolding short handled called taken grow due total tasks_of handlers_of
nothing-lacks = refl

passes : AlwaysPasses (tasks_of tasks) (handlers_of handlers)
passes =
    period-ends (tasks_of tasks) (handlers_of handlers) (readable-in-range tasks handlers readable) (omega (arith, h-is, w-is))
    (λ l from within. short-zero (tasks_of tasks) (handlers_of handlers) 20 nothing-lacks l from (omega (arith, h-is)))

-- Whatever the promise allows here is a yes.
pub yes-here : (r : Result Answer Refusal) → VerdictSays tasks handlers r → (figures r).word ≡ fits
unfolding VerdictSays
yes-here r says = only-fits tasks handlers (figures r) readable passes says

-- What a table under less is told.
abbrev StaysYes : List ℕ → List ℕ → Type 0
StaysYes t h = (r s : Result Answer Refusal) → VerdictSays tasks handlers r → VerdictSays t h s → (figures s).word ≡ fits

stays : (t h : List ℕ) → Lighter (tasks_of t) (tasks_of tasks) → Lighter (handlers_of h) (handlers_of handlers) → verdict_refusal t h ≡ 0 → StaysYes t h
unfolding YesUnderLess
stays t h wt wh read r s says told = yes-under-less tasks handlers t h r s says (yes-here r says) wt wh read told

abbrev row : ℕ → ℕ → ℕ → Row
row c p d = record { cost = c; period = p; deadline = d }

-- A row that stays as it is, and one that costs no more, comes no more often and has its deadline no earlier.
keep : (r : Row) {rs qs : List Row} → Lighter rs qs → Lighter (r ∷ rs) (r ∷ qs)
keep r w = eased {r = r} {q = r} (record { cost = omega arith; period = omega arith; deadline = omega arith }) w

ease : (r q : Row) {rs qs : List Row} → r.cost ≤ q.cost → q.period ≤ r.period → q.deadline ≤ r.deadline → Lighter rs qs → Lighter (r ∷ rs) (q ∷ qs)
ease r q cost period deadline w = eased {r = r} {q = q} (record { cost = cost; period = period; deadline = deadline }) w

same-tasks : Lighter (tasks_of tasks) (tasks_of tasks)
unfolding tasks_of
same-tasks = keep (row 2 10 4) (keep (row 3 10 8) none)

same-handlers : Lighter (handlers_of handlers) (handlers_of handlers)
unfolding handlers_of
same-handlers = keep (row 2 20 20) none

-- The first task dropped, the last, and the handler.
pub first-dropped : StaysYes (3 ∷ 10 ∷ 8 ∷ []) handlers
unfolding verdict_refusal first_refusal table_tests common lcm_from lcm gcd euclid total some tasks_of handlers_of
first-dropped = stays (3 ∷ 10 ∷ 8 ∷ []) handlers (dropped (keep (row 3 10 8) none)) same-handlers refl

pub last-dropped : StaysYes (2 ∷ 10 ∷ 4 ∷ []) handlers
unfolding verdict_refusal first_refusal table_tests common lcm_from lcm gcd euclid total some tasks_of handlers_of
last-dropped = stays (2 ∷ 10 ∷ 4 ∷ []) handlers (keep (row 2 10 4) (dropped none)) same-handlers refl

pub handler-dropped : StaysYes tasks []
unfolding verdict_refusal first_refusal table_tests common lcm_from lcm gcd euclid total some tasks_of handlers_of
handler-dropped = stays tasks [] same-tasks (dropped none) refl

-- A cost cut, a period lengthened, a deadline lengthened, of the first task.
abbrev first : ℕ → ℕ → ℕ → List ℕ
first c p d = c ∷ p ∷ d ∷ 3 ∷ 10 ∷ 8 ∷ []

first-eased : (c p d : ℕ) → c ≤ 2 → 10 ≤ p → 4 ≤ d → Lighter (tasks_of (first c p d)) (tasks_of tasks)
unfolding tasks_of
first-eased c p d cost period deadline = ease (row c p d) (row 2 10 4) cost period deadline (keep (row 3 10 8) none)

pub cost-cut : StaysYes (first 1 10 4) handlers
unfolding verdict_refusal first_refusal table_tests common lcm_from lcm gcd euclid total some tasks_of handlers_of
cost-cut = stays (first 1 10 4) handlers (first-eased 1 10 4 (omega arith) (omega arith) (omega arith)) same-handlers refl

pub period-lengthened : StaysYes (first 2 15 4) handlers
unfolding verdict_refusal first_refusal table_tests common lcm_from lcm gcd euclid total some tasks_of handlers_of
period-lengthened = stays (first 2 15 4) handlers (first-eased 2 15 4 (omega arith) (omega arith) (omega arith)) same-handlers refl

pub deadline-lengthened : StaysYes (first 2 10 5) handlers
unfolding verdict_refusal first_refusal table_tests common lcm_from lcm gcd euclid total some tasks_of handlers_of
deadline-lengthened = stays (first 2 10 5) handlers (first-eased 2 10 5 (omega arith) (omega arith) (omega arith)) same-handlers refl

-- The handler's cost and period; and all at once.
pub handler-eased : StaysYes tasks (1 ∷ 25 ∷ [])
unfolding verdict_refusal first_refusal table_tests common lcm_from lcm gcd euclid total some tasks_of handlers_of
handler-eased = stays tasks (1 ∷ 25 ∷ []) same-tasks (ease (row 1 25 25) (row 2 20 20) (omega arith) (omega arith) (omega arith) none) refl

pub all-eased : StaysYes (1 ∷ 15 ∷ 5 ∷ []) []
unfolding verdict_refusal first_refusal table_tests common lcm_from lcm gcd euclid total some tasks_of handlers_of
all-eased = stays (1 ∷ 15 ∷ 5 ∷ []) [] (ease (row 1 15 5) (row 2 10 4) (omega arith) (omega arith) (omega arith) (dropped none)) (dropped none) refl

-- ---- what is not less: a cost raised, a period or a deadline shortened, a row added

-- D of the first task's row and the other at l; A of the handler's at l.
no-dearer : ¬ Lighter (tasks_of (first 3 10 4)) (tasks_of tasks)
unfolding due total tasks_of
no-dearer w = let more : due (tasks_of (first 3 10 4)) 4 ≤ due (tasks_of tasks) 4 = due-lighter 4 (omega arith, (omega arith, tt)) w in omega arith

no-oftener : ¬ Lighter (tasks_of (first 2 9 4)) (tasks_of tasks)
unfolding due total tasks_of
no-oftener w = let more : due (tasks_of (first 2 9 4)) 13 ≤ due (tasks_of tasks) 13 = due-lighter 13 (omega arith, (omega arith, tt)) w in omega arith

no-sooner : ¬ Lighter (tasks_of (first 2 10 3)) (tasks_of tasks)
unfolding due total tasks_of
no-sooner w = let more : due (tasks_of (first 2 10 3)) 3 ≤ due (tasks_of tasks) 3 = due-lighter 3 (omega arith, (omega arith, tt)) w in omega arith

no-row-more : ¬ Lighter (handlers_of (2 ∷ 20 ∷ 1 ∷ 20 ∷ [])) (handlers_of handlers)
unfolding called total handlers_of
no-row-more w = let more : called (handlers_of (2 ∷ 20 ∷ 1 ∷ 20 ∷ [])) 1 ≤ called (handlers_of handlers) 1 = called-lighter 1 (omega arith, tt) w in omega arith

-- ---- test lengths of case 9, tasks 2/5 and 4/8: 5, 8 and 10, and not 9

abbrev tasks-9 : List ℕ
tasks-9 = 2 ∷ 5 ∷ 5 ∷ 4 ∷ 8 ∷ 8 ∷ []

test-5 : TestLength (tasks_of tasks-9) 5
unfolding tasks_of
test-5 = inl (0, refl)

test-8 : TestLength (tasks_of tasks-9) 8
unfolding tasks_of
test-8 = inr (inl (0, refl))

test-10 : TestLength (tasks_of tasks-9) 10
unfolding tasks_of
test-10 = inl (1, refl)

no-test-9 : ¬ TestLength (tasks_of tasks-9) 9
unfolding tasks_of
no-test-9 (inl (n, e)) = omega arith
no-test-9 (inr (inl (n, e))) = omega arith
no-test-9 (inr (inr x)) = x

no-test-0 : ¬ TestLength (tasks_of tasks-9) 0
unfolding tasks_of
no-test-0 (inl (n, e)) = omega arith
no-test-0 (inr (inl (n, e))) = omega arith
no-test-0 (inr (inr x)) = x

-- A task 2/10 with deadline 4: 4 and 14, and no whole period.
abbrev task-4 : List ℕ
task-4 = 2 ∷ 10 ∷ 4 ∷ []

test-14 : TestLength (tasks_of task-4) 14
unfolding tasks_of
test-14 = inl (1, refl)

no-test-10 : ¬ TestLength (tasks_of task-4) 10
unfolding tasks_of
no-test-10 (inl (n, e)) = omega arith
no-test-10 (inr x) = x

-- ---- a load of one million exactly, case 2: task 2/4, handler 1/2, W is H

abbrev tasks-2 : List ℕ
tasks-2 = 2 ∷ 4 ∷ 4 ∷ []

abbrev handlers-2 : List ℕ
handlers-2 = 1 ∷ 2 ∷ []

readable-2 : verdict_refusal tasks-2 handlers-2 ≡ 0
unfolding verdict_refusal first_refusal table_tests common lcm_from lcm gcd euclid total some tasks_of handlers_of
readable-2 = refl

full-2 : (whole (tasks_of tasks-2) (handlers_of handlers-2) ≡ 4) × (common (tasks_of tasks-2) (handlers_of handlers-2) ≡ 4)
unfolding whole work common lcm_from lcm gcd euclid total tasks_of handlers_of
full-2 = (refl, refl)

-- One million is said of no more than full, ..
pub million-is-full : (r : Result Answer Refusal) → VerdictSays tasks-2 handlers-2 r → (figures r).load ≡ 1000000 → whole (tasks_of tasks-2) (handlers_of handlers-2) ≤ 4
unfolding LoadTells
million-is-full r says said =
    let told : whole (tasks_of tasks-2) (handlers_of handlers-2) ≤ common (tasks_of tasks-2) (handlers_of handlers-2) = (load-tells tasks-2 handlers-2 r says readable-2).0 (omega arith) in
    omega (arith, told, full-2.1)

-- .. and of full no more than one million.
pub full-is-million : (r : Result Answer Refusal) → VerdictSays tasks-2 handlers-2 r → (figures r).load ≤ 1000000
unfolding LoadTells
full-is-million r says = (load-tells tasks-2 handlers-2 r says readable-2).1 (omega (arith, full-2.0, full-2.1))

-- ---- and one above, the table of M-100: tasks 999/1,000 and 1,000/999,999, W is H + 1

abbrev tasks-100 : List ℕ
tasks-100 = 999 ∷ 1000 ∷ 1000 ∷ 1000 ∷ 999999 ∷ 999999 ∷ []

readable-100 : verdict_refusal tasks-100 [] ≡ 0
unfolding verdict_refusal first_refusal table_tests common lcm_from lcm gcd euclid total some tasks_of handlers_of
readable-100 = refl

over-100 : (whole (tasks_of tasks-100) (handlers_of []) ≡ 999999001) × (common (tasks_of tasks-100) (handlers_of []) ≡ 999999000)
unfolding whole work common lcm_from lcm gcd euclid total tasks_of handlers_of
over-100 = (refl, refl)

pub over-is-above : (r : Result Answer Refusal) → VerdictSays tasks-100 [] r → (figures r).load ≤ 1000000 → ⊥
unfolding LoadTells
over-is-above r says few =
    let told : whole (tasks_of tasks-100) (handlers_of []) ≤ common (tasks_of tasks-100) (handlers_of []) = (load-tells tasks-100 [] r says readable-100).0 few in
    omega (arith, told, over-100.0, over-100.1)

-- ---- H at its limit: 999,999,999 of periods 2,997 and 333,667, 1,000,000,001 of 19,019 and 52,579. The limit itself is no H: 5 ^ 9 divides it, and is above any period.

below-limit : verdict_refusal (1 ∷ 2997 ∷ 2997 ∷ 1 ∷ 333667 ∷ 333667 ∷ []) [] ≡ 0
unfolding verdict_refusal first_refusal table_tests common lcm_from lcm gcd euclid total some tasks_of handlers_of
below-limit = refl

above-limit : verdict_refusal (1 ∷ 19019 ∷ 19019 ∷ 1 ∷ 52579 ∷ 52579 ∷ []) [] ≡ 4
unfolding verdict_refusal first_refusal table_tests common lcm_from lcm gcd euclid total some tasks_of handlers_of
above-limit = refl
