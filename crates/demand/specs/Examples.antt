-- Figures of 01's "Sums done by hand", and the two shortcuts that are not f (01, "Shortcuts that give a wrong sheet"),
-- worked out from the definitions.
--   formula_two l r   == document 001, formula 2: what bounds one handler apart
use Rattle.std.specs.Prelude.{negsuc, [], ◌∷◌, ◌≡◌, refl, ℕ, ◌+◌, ◌*◌, ◌/◌, ◌%◌, min}
use Rattle.demand.specs.Demands.{called, grow, taken, handled, due, margin}
use Rattle.demand.specs.Refusals.{table_tests, table_refusal, asked_refusal}
use Rattle.demand.specs.Rows.{Row, tasks_of, handlers_of, total, some}
use Rattle.demand.specs.Tests.{first_refusal}

abbrev formula_two : ℕ → Row → ℕ
formula_two l r = r.cost * (l / r.period) + min r.cost (l % r.period)

-- Case 2: handler 1/2.
pub case-2 : handled (handlers_of (1 ∷ 2 ∷ [])) 4 ≡ 2
unfolding handled taken grow called total handlers_of
case-2 = refl

-- Case 3: handler 2/3. More is called for than can be taken.
pub case-3-taken : handled (handlers_of (2 ∷ 3 ∷ [])) 4 ≡ 3
unfolding handled taken grow called total handlers_of
case-3-taken = refl

pub case-3-called : called (handlers_of (2 ∷ 3 ∷ [])) 4 ≡ 4
unfolding called total handlers_of
case-3-called = refl

-- Case 7: handlers 1/4 and 1/4.
pub case-7-one : handled (handlers_of (1 ∷ 4 ∷ 1 ∷ 4 ∷ [])) 1 ≡ 1
unfolding handled taken grow called total handlers_of
case-7-one = refl

pub case-7-two : handled (handlers_of (1 ∷ 4 ∷ 1 ∷ 4 ∷ [])) 2 ≡ 2
unfolding handled taken grow called total handlers_of
case-7-two = refl

-- Formula 2 summed is not f: two ticks of one.
pub case-7-formula-two : total (formula_two 1) (handlers_of (1 ∷ 4 ∷ 1 ∷ 4 ∷ [])) ≡ 2
unfolding total handlers_of
case-7-formula-two = refl

-- Case 9: tasks 2/5 and 4/8, handler 1/4. The margin at 10 is -1.
pub case-9 : margin (tasks_of (2 ∷ 5 ∷ 5 ∷ 4 ∷ 8 ∷ 8 ∷ [])) (handlers_of (1 ∷ 4 ∷ [])) 10 ≡ negsuc 0
unfolding margin handled taken grow called due total tasks_of handlers_of
case-9 = refl

-- M-101: a task of 1 in 4 that must be done within 2 ticks has its first deadline at 2 and its next at 6.
pub short-deadline-early : due (tasks_of (1 ∷ 4 ∷ 2 ∷ [])) 1 ≡ 0
unfolding due total tasks_of
short-deadline-early = refl

pub short-deadline-first : due (tasks_of (1 ∷ 4 ∷ 2 ∷ [])) 5 ≡ 1
unfolding due total tasks_of
short-deadline-first = refl

pub short-deadline-next : due (tasks_of (1 ∷ 4 ∷ 2 ∷ [])) 6 ≡ 2
unfolding due total tasks_of
short-deadline-next = refl

-- Of several refusals the first in the order 1, 2, 3, 13, 5: a cost of 0 beside a deadline above its period is 3,
pub three-before-thirteen : table_refusal (0 ∷ 4 ∷ 5 ∷ []) [] ≡ 3
unfolding table_refusal table_tests first_refusal some tasks_of handlers_of
three-before-thirteen = refl

-- and a deadline above its period is 13, whatever interval is asked about.
pub thirteen-before-five : asked_refusal (1 ∷ 4 ∷ 5 ∷ []) [] 1000000001 ≡ 13
unfolding asked_refusal table_tests first_refusal some tasks_of handlers_of
thirteen-before-five = refl
