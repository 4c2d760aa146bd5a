-- Refusals 1, 2, 3, 13 and 5 (01, "Numbered refusals"; 02, M-101): the first of them that applies, in this order, 0 where none does.
--   table_tests t h       == the tests of a table, each with its number: 1, 2, 3, 13
--   table_refusal t h     == the number of the table's own refusal
--   asked_refusal t h l   == that of a question about the interval of l ticks
--   InRange ts hs        each figure of the table lies in its range: what no refusal of its own comes to
use Rattle.std.specs.Prelude.{Bool, ◌||◌, List, [], ◌∷◌, ◌++◌, ℕ, ◌%◌, ◌≤◌, eqb, ltb, length}
use Rattle.demand.specs.Limits.{figure_most, tasks_most, handlers_most, ticks_most}
use Rattle.demand.specs.Rows.{Row, tasks_of, handlers_of, width, some, Each, Valid}
use Rattle.demand.specs.Tests.{first_refusal}
use Rattle.demand.specs.declared.table.Kind.{Kind}
use Rattle.demand.specs.declared.table.Kind.TheVariants.{Task, Handler}

-- 1: a list of tasks is not in threes, or one of handlers not in twos
abbrev pub uneven : Kind → List ℕ → Bool
uneven kind s = ltb 0 (length s % width kind)

-- 2: no task, over 64 tasks or over 16 handlers
abbrev pub miscounted : List Row → List Row → Bool
miscounted ts hs = eqb (length ts) 0 || ltb tasks_most (length ts) || ltb handlers_most (length hs)

-- 3: a cost or period is 0 or above 1,000,000
abbrev pub outside : ℕ → Bool
outside x = eqb x 0 || ltb figure_most x

abbrev pub row_outside : Row → Bool
row_outside r = outside r.cost || outside r.period

-- 13: a deadline is 0 or above its period
abbrev pub deadline_outside : Row → Bool
deadline_outside r = eqb r.deadline 0 || ltb r.period r.deadline

-- 13 comes after 3, and what is asked about the table after both
unfoldable pub table_tests : List ℕ → List ℕ → List (ℕ × Bool)
table_tests t h =
    (1, uneven Task t || uneven Handler h)
    ∷ (2, miscounted (tasks_of t) (handlers_of h))
    ∷ (3, some row_outside (tasks_of t) || some row_outside (handlers_of h))
    ∷ (13, some deadline_outside (tasks_of t))
    ∷ []

unfoldable pub table_refusal : List ℕ → List ℕ → ℕ
table_refusal t h = first_refusal (table_tests t h)

-- 5: an interval above 1,000,000,000 is asked about
unfoldable pub asked_refusal : List ℕ → List ℕ → ℕ → ℕ
asked_refusal t h l = first_refusal (table_tests t h ++ ((5, ltb ticks_most l) ∷ []))

-- a figure from 1 to 1,000,000
pub record Fair (x : ℕ) : Type 0 where
  pub least : 1 ≤ x
  pub most : x ≤ figure_most

pub record FairRow (r : Row) : Type 0 where
  pub cost : Fair r.cost
  pub period : Fair r.period

pub record InRange (ts hs : List Row) : Type 0 where
  pub tasks : Each FairRow ts
  pub handlers : Each FairRow hs
  pub deadlines : Valid ts
  pub some-task : 1 ≤ length ts
  pub tasks-most : length ts ≤ tasks_most
  pub handlers-most : length hs ≤ handlers_most
