-- A table under less (00, demand 3): rows dropped, costs cut, periods lengthened, and deadlines too (02, M-101), in any combination.
--   Lighter rs qs   the rows rs are the rows qs made lighter
use Rattle.std.specs.Prelude.{List, [], ◌∷◌, ◌≤◌}
use Rattle.demand.specs.Rows.{Row}

-- A row that stays costs no more and comes no more often, and its deadline is no earlier.
pub record Eased (r q : Row) : Type 0 where
  pub cost : r.cost ≤ q.cost
  pub period : q.period ≤ r.period
  pub deadline : q.deadline ≤ r.deadline

pub data Lighter : List Row → List Row → Type 0 where
  none : Lighter [] []
  dropped : {r : Row} {rs qs : List Row} → Lighter rs qs → Lighter rs (r ∷ qs)
  eased : {r q : Row} {rs qs : List Row} → Eased r q → Lighter rs qs → Lighter (r ∷ rs) (q ∷ qs)
