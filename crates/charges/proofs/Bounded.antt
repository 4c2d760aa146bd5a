-- Laws of formula 2 (specs/Ways): how great it gets.
use mathlib.Core.List.{List}
use native.Mathlib.Nat.{mul-le-mul, mul-le-mul_right, div-le_self}
use native.Mathlib.Omega.{arith}
use lib.ListN.{length}
use Prim.Native.Nat.{ℕ, ◌+◌, ◌*◌, ◌≤◌}
use Rattle.charges.specs.Ways.{bound, bounds}
use Rattle.demand.specs.Refusals.{FairRow}
use Rattle.demand.specs.Rows.{Row, Each}
use Rattle.demand.proofs.Sums.{each_map, total-most}

-- A handler in range is bounded by 1,000,000 a tick, and as much again for the rest.
pub bound-most : (l : ℕ) (r : Row) → FairRow r → bound l r ≤ 1000000 * l + 1000000
bound-most l r f = omega (arith, mul-le-mul f.cost.most (div-le_self l r.period), f.cost.most)

pub bounds-most : (n l : ℕ) (hs : List Row) → Each FairRow hs → length hs ≤ n → bounds hs l ≤ n * (1000000 * l + 1000000)
unfolding bounds
bounds-most n l hs fair few =
    omega (arith, total-most (1000000 * l + 1000000) (bound l) hs (each_map (bound-most l) hs fair), mul-le-mul_right (1000000 * l + 1000000) few)
