-- The rows of a table (01, "Tables and figures"; 02, M-101). A table is lent as two flat lists: tasks in threes, handlers in twos.
--   Row                      == a cost, a period, and a deadline: the ticks that a job has from its arrival
--   tasks_of t                == the rows of the list of tasks: cost, period, deadline, cost, ..
--   handlers_of h             == the rows of the list of handlers: cost, period, cost, .., with the period for a deadline
--   rows_of kind s            == the rows of either; width kind is how many numbers a row has
--   rest kind s              == the list s behind its first row
--   row_of r                  == the row that the code holds as r
--   row_at rs i               == the row at place i, no_row past the last
--   total g rs               == the sum of g over the rows rs
--   some test rs             == the test holds of a row of rs
--   Each P rs                P holds of every row of rs
--   Positive rs              every period is at least 1
--   Valid ts                 every deadline is from 1 to its period
use Rattle.std.specs.Prelude.{Bool, false, ◌||◌, List, [], ◌∷◌, ℕ, ◌+◌, ◌-◌, ◌≤◌, ◌<◌, length, get_or, take, drop}
use Rattle.demand.specs.declared.table.Kind.{Kind}
use Rattle.demand.specs.declared.table.Kind.TheVariants.{Task, Handler}
use Rattle.demand.specs.declared.table.Row as code

pub record Row : Type 0 where
  pub cost : ℕ
  pub period : ℕ
  pub deadline : ℕ

-- Fewer numbers than a row has are no row.
unfoldable pub tasks_of : List ℕ → List Row
tasks_of [] = []
tasks_of (c ∷ []) = []
tasks_of (c ∷ p ∷ []) = []
tasks_of (c ∷ p ∷ d ∷ t) = record { cost = c; period = p; deadline = d } ∷ tasks_of t

unfoldable pub handlers_of : List ℕ → List Row
handlers_of [] = []
handlers_of (c ∷ []) = []
handlers_of (c ∷ p ∷ h) = record { cost = c; period = p; deadline = p } ∷ handlers_of h

abbrev pub rows_of : Kind → List ℕ → List Row
rows_of Task t = tasks_of t
rows_of Handler h = handlers_of h

abbrev pub width : Kind → ℕ
width Task = 3
width Handler = 2

abbrev pub rest : Kind → List ℕ → List ℕ
rest kind s = take (length s - width kind) (drop (width kind) s)

abbrev pub row_of : code.Row → Row
row_of r = record { cost = r.cost; period = r.period; deadline = r.deadline }

abbrev pub no_row : Row
no_row = record { cost = 0; period = 0; deadline = 0 }

abbrev pub row_at : List Row → ℕ → Row
row_at rs i = get_or rs i no_row

unfoldable pub total : (Row → ℕ) → List Row → ℕ
total g [] = 0
total g (r ∷ rs) = g r + total g rs

unfoldable pub some : (Row → Bool) → List Row → Bool
some test [] = false
some test (r ∷ rs) = test r || some test rs

abbrev pub Each : (Row → Type 0) → List Row → Type 0
Each P [] = Unit
Each P (r ∷ rs) = P r × Each P rs

abbrev pub Positive : List Row → Type 0
Positive rs = Each (λ r. 0 < r.period) rs

pub record Sound (r : Row) : Type 0 where
  pub some : 0 < r.deadline
  pub fits : r.deadline ≤ r.period

abbrev pub Valid : List Row → Type 0
Valid ts = Each Sound ts
