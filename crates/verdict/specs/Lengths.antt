-- Interval lengths (00, demand 2; 01, "The verdict"; 02, M-101): those that pass, the shortest that fails, and test lengths: only a task's
-- deadline plus any number of its periods can be the least failing length.
--   AlwaysPasses ts hs   every interval length from 1 up passes, with no upper end
--   LeastFailing ts hs l l is the shortest interval that fails
--   TestLength ts l     l is a deadline of some task, where all tasks arrive at 0 and every period
--   LeastIsTest         the least failing length is one
use Rattle.std.specs.Prelude.{List, [], ◌∷◌, ◌⊎◌, ◌≡◌, ℕ, ◌+◌, ◌*◌, ◌≤◌, ◌<◌}
use Rattle.demand.specs.Demands.{Passes, Fails}
use Rattle.demand.specs.Rows.{Row, Valid}

unfoldable pub AlwaysPasses : List Row → List Row → Type 0
AlwaysPasses ts hs = (l : ℕ) → 1 ≤ l → Passes ts hs l

pub record LeastFailing (ts hs : List Row) (l : ℕ) : Type 0 where
  pub positive : 1 ≤ l
  pub fails : Fails ts hs l
  pub least : (m : ℕ) → 1 ≤ m → m < l → Passes ts hs m

abbrev pub TestLength : List Row → ℕ → Type 0
TestLength [] l = ⊥
TestLength (r ∷ ts) l = ((n : ℕ) × (l ≡ r.deadline + n * r.period)) ⊎ TestLength ts l

abbrev pub LeastIsTest : Type 0
LeastIsTest = (ts hs : List Row) (l : ℕ) → Valid ts → LeastFailing ts hs l → TestLength ts l
