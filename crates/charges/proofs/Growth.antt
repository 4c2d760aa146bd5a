-- How great grown costs get: at most periods_most whole periods each.
use mathlib.Core.List.{List}
use mathlib.Core.Path.{◌≡◌}
use native.Mathlib.Nat.{mul-le-mul, div-le_of_le-mul, mul_comm}
use native.Mathlib.Omega.{arith}
use Prim.Native.Nat.{ℕ, ◌+◌, ◌*◌, ◌/◌, ◌≤◌, ◌<◌}
use Rattle.charges.specs.Inside.{way_cost, Quantized, Usable, CanCharge, periods_most}
use Rattle.charges.specs.Ways.{task_cost, bounds}
use Rattle.charges.specs.declared.ways.Way.{Way}
use Rattle.charges.specs.declared.ways.Way.TheVariants as way
use Rattle.charges.proofs.Bounded.{bounds-most}
use Rattle.demand.specs.Demands.{ceil}
use Rattle.demand.specs.Refusals.{FairRow}
use Rattle.demand.specs.Rows.{Row}
use Rattle.demand.proofs.Divide.{ceil-le}

-- In whole quanta a cost is at most as many quanta as it has ticks.
pub quanta-most : (c q u : ℕ) → 0 < u → q ≤ 100000 → c ≤ 1000000 → q * ceil c u ≤ 100000000000
quanta-most c q u some short most =
    let few : ceil c u ≤ 1000000 = omega (arith, ceil-le u c some) in
    omega (arith, mul-le-mul short few)

pub task-cost-most : (hs : List Row) (r : Row) → CanCharge hs → FairRow r → task_cost hs r ≤ 33000000 * r.period
task-cost-most hs r can f = omega (arith, bounds-most 16 r.period hs can.rows can.count, f.cost.most, f.period.least)

-- Either way.
pub grown-most : (w : Way) (hs : List Row) (r : Row) → Usable w → CanCharge hs → FairRow r → way_cost w hs r ≤ periods_most * r.period
grown-most (way.Quantum q u) hs r usable can f =
    omega (arith, quanta-most r.cost q u usable.some usable.short f.cost.most, f.period.least)
grown-most way.Task hs r usable can f = omega (arith, task-cost-most hs r can f)

-- So no more whole periods.
pub periods-most : (g p : ℕ) → g ≤ periods_most * p → g / p ≤ periods_most
periods-most g p most = div-le_of_le-mul p (omega (arith, most, mul_comm p periods_most))

-- ---- a way in hand

module _ (w : Way) (hs : List Row) (r : Row) where
  pub quantum-usable : (q u : ℕ) → w ≡ way.Quantum q u → Usable w → FairRow r → Quantized r.cost q u
  quantum-usable q u e usable f = record { cost = f.cost.most; useful = rw e at usable }

  pub quantum-read : (q u x : ℕ) → w ≡ way.Quantum q u → x ≡ q * ceil r.cost u → x ≡ way_cost w hs r
  quantum-read q u x e is = rw e is

  pub task-read : (x : ℕ) → w ≡ way.Task → x ≡ bounds hs r.period → r.cost + x ≡ way_cost w hs r
  task-read x e is = rw (e, is)
