-- One cost of a table changed, all else kept (02, M-112).
--   place_of i         == where the cost of task i stands in the lent list of tasks
--   cost_at t i        == the cost of task i
--   with_cost t i c    == the lent list t with cost c for its task i, all other numbers kept
--   repriced rs i c   == the rows rs with cost c for the row at i, its period and its deadline kept, and all other rows
--   CostAlone         the rows of with_cost t i c are those of t, repriced
--   PresentKept       with its present cost for a task the list is the list itself
--   CostIs            that cost is the one of the row at i
use Rattle.std.specs.Prelude.{List, [], ◌∷◌, ◌≡◌, ℕ, zero, suc, ◌*◌, ◌<◌, length, get_or, set}
use Rattle.demand.specs.Rows.{Row, tasks_of, row_at, width}
use Rattle.demand.specs.declared.table.Kind.TheVariants.{Task}

abbrev pub place_of : ℕ → ℕ
place_of i = width Task * i

unfoldable pub cost_at : List ℕ → ℕ → ℕ
cost_at t i = get_or t (place_of i) 0

unfoldable pub with_cost : List ℕ → ℕ → ℕ → List ℕ
with_cost t i c = set t (place_of i) c

unfoldable pub repriced : List Row → ℕ → ℕ → List Row
repriced [] i c = []
repriced (r ∷ rs) zero c = record { cost = c; period = r.period; deadline = r.deadline } ∷ rs
repriced (r ∷ rs) (suc i) c = r ∷ repriced rs i c

abbrev pub CostAlone : Type 0
CostAlone = (t : List ℕ) (i c : ℕ) → tasks_of (with_cost t i c) ≡ repriced (tasks_of t) i c

abbrev pub PresentKept : Type 0
PresentKept = (t : List ℕ) (i : ℕ) → with_cost t i (cost_at t i) ≡ t

abbrev pub CostIs : Type 0
CostIs = (t : List ℕ) (i : ℕ) → i < length (tasks_of t) → cost_at t i ≡ (row_at (tasks_of t) i).cost
