-- What no promise cites.
--   way_cost way hs r     == what a task's cost grows to this way
--   UsefulPart q u       u is a part, at least a tick, of a quantum of q ticks in range
--   Usable way           so of a way by quanta
--   Quantized c q u      so, with a cost in range
--   CanCharge hs         few handlers, each in range
--   CanLoad ts           few tasks, each in range, whose periods have a common multiple within the limit
--   periods_by, rest_by    == whole periods of a grown cost, and what its rest brings over h ticks
--   SumsSay g h ts r     r has the sums of both over ts
--   periods_most          == the most whole periods of a grown cost
--   Known t h b          b is whether the table is readable with every deadline its period
use Rattle.std.specs.Prelude.{Bool, List, ◌≡◌, ℕ, ◌*◌, ◌/◌, ◌%◌, ◌≤◌, ◌<◌, length}
use Rattle.charges.specs.Promise.{quantum_most, charged}
use Rattle.charges.specs.Ways.{task_cost}
use Rattle.charges.specs.declared.ways.Sums.{Sums}
use Rattle.charges.specs.declared.ways.Way.{Way}
use Rattle.charges.specs.declared.ways.Way.TheVariants as way
use Rattle.demand.specs.Demands.{ceil}
use Rattle.demand.specs.Limits.{figure_most, tasks_most, handlers_most, ticks_most}
use Rattle.demand.specs.Multiples.{lcm_from}
use Rattle.demand.specs.Refusals.{FairRow}
use Rattle.demand.specs.Rows.{Row, Each, total}

abbrev pub way_cost : Way → List Row → Row → ℕ
way_cost (way.Quantum q u) hs r = q * ceil r.cost u
way_cost way.Task hs r = task_cost hs r

pub record UsefulPart (q u : ℕ) : Type 0 where
  pub some : 0 < u
  pub part : u ≤ q
  pub short : q ≤ quantum_most

abbrev pub Usable : Way → Type 0
Usable (way.Quantum q u) = UsefulPart q u
Usable way.Task = Unit

pub record Quantized (c q u : ℕ) : Type 0 where
  pub cost : c ≤ figure_most
  pub useful : UsefulPart q u

pub record CanCharge (hs : List Row) : Type 0 where
  pub rows : Each FairRow hs
  pub count : length hs ≤ handlers_most

pub record CanLoad (ts : List Row) : Type 0 where
  pub rows : Each FairRow ts
  pub count : length ts ≤ tasks_most
  pub ticks : lcm_from 1 ts ≤ ticks_most

abbrev pub periods_by : (Row → ℕ) → Row → ℕ
periods_by g r = g r / r.period

abbrev pub rest_by : (Row → ℕ) → ℕ → Row → ℕ
rest_by g h r = g r % r.period * (h / r.period)

pub record SumsSay (g : Row → ℕ) (h : ℕ) (ts : List Row) (r : Sums) : Type 0 where
  pub periods : r.periods ≡ total (periods_by g) ts
  pub rest : r.rest ≡ total (rest_by g h) ts

abbrev pub periods_most : ℕ
periods_most = 100000000000

abbrev pub Known : List ℕ → List ℕ → Bool → Type 0
Known t h b = b ≡ charged t h
