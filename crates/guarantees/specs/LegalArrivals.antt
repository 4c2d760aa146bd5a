-- Accepted arrivals are legal ones (00, demand 3; 01, refusals 10 and 11).
--   Accepted r ws          the step of run r with arrivals ws is accepted
--   LegalArrival r k w     an arrival of w at place k of run r is not too soon and not too much
--   LegalOnly r ws         accepted arrivals come no sooner than a period after the last and bring at most the cost, and the reverse
--   LegalArrivals          so for every run in bounds that is not over, before the last clock, by any key
use Rattle.std.specs.Prelude.{false, List, ◌≡◌, ℕ, ◌+◌, ◌≤◌, ◌<◌, length, get_or}
use Rattle.demand.specs.Limits.{ticks_most}
use Rattle.machine.specs.Live.{Live}
use Rattle.scheduler.specs.Reached.{WellMade}
use Rattle.scheduler.specs.Runs.{row_in, row_count}
use Rattle.scheduler.specs.Steps.{step_refusal, step_by}
use Rattle.scheduler.specs.declared.Run.{Run}

abbrev pub Accepted : Run → List ℕ → Type 0
Accepted r ws = step_refusal r ws ≡ 0

-- A row's arrival of w ticks of work at place k of run r comes no sooner than its next legal tick and brings at most its cost.
pub record LegalArrival (r : Run) (k w : ℕ) : Type 0 where
  pub in-time : 0 < w → get_or r.next k 0 ≤ r.clock
  pub in-cost : w ≤ (row_in r k).cost

-- A list is accepted exactly if it has a number for each row and each is legal; and an accepted arrival makes the row's next legal
-- tick a period later than the clock, where it stays without one, so that arrivals are at least a period apart.
pub record LegalOnly (r : Run) (ws : List ℕ) : Type 0 where
  pub count : Accepted r ws → length ws ≡ row_count r
  pub legal : Accepted r ws → (k : ℕ) → k < row_count r → LegalArrival r k (get_or ws k 0)
  pub apart : (key : Live → ℕ) → Accepted r ws → (k : ℕ) → k < row_count r → 0 < get_or ws k 0
      → get_or (step_by key r ws).run.next k 0 ≡ r.clock + (row_in r k).period
  pub waits : (key : Live → ℕ) → Accepted r ws → (k : ℕ) → k < row_count r → get_or ws k 0 ≡ 0
      → get_or (step_by key r ws).run.next k 0 ≡ get_or r.next k 0
  pub accepted : length ws ≡ row_count r → ((k : ℕ) → k < row_count r → LegalArrival r k (get_or ws k 0)) → Accepted r ws

abbrev pub LegalArrivals : Type 0
LegalArrivals = (r : Run) (ws : List ℕ) → WellMade r → r.over ≡ false → r.clock < ticks_most → LegalOnly r ws
