-- Legal arrivals of rows at work (01, refusals 10 and 11), and their table, which no tick changes.
--   table_of xs             == the rows of the table, of rows at work
--   Legal t w x            an arrival of w at tick t is not too soon and not too much; LegalAll for each row its own number
--   LegalTick a s          each arrival of a is legal in s
use Rattle.std.specs.Prelude.{List, [], ◌∷◌, ℕ, zero, suc, ◌≤◌}
use Rattle.demand.specs.Rows.{Row}
use Rattle.machine.specs.Live.{Live}
use Rattle.machine.specs.Machine.{State, Arrivals}

unfoldable pub table_of : List Live → List Row
table_of [] = []
table_of (x ∷ xs) = x.row ∷ table_of xs

abbrev pub Legal : ℕ → ℕ → Live → Type 0
Legal t zero x = Unit
Legal t (suc w) x = (x.next ≤ t) × (suc w ≤ x.row.cost)

abbrev pub LegalAll : ℕ → List ℕ → List Live → Type 0
LegalAll t [] xs = Unit
LegalAll t (w ∷ ws) [] = Unit
LegalAll t (w ∷ ws) (x ∷ xs) = Legal t w x × LegalAll t ws xs

abbrev pub LegalTick : Arrivals → State → Type 0
LegalTick a s = LegalAll s.clock a.to_tasks s.tasks × LegalAll s.clock a.to_handlers s.handlers
