-- Laws of W, E and the load (specs/Loads): row by row, how great they get, and the load without a long product.
use mathlib.Core.List.{List, [], ◌∷◌}
use mathlib.Core.Path.{◌≡◌, refl, ap, ◌∙◌}
use native.Mathlib.Nat.{mul-le-mul, mul-le-mul_left, mul-le-mul_right, mul_assoc, mul-add-div, div-le_self, div-mul-le_self, div-add-mod', div-lt_iff_lt-mul}
use native.Mathlib.Omega.{arith}
use lib.ListN.{length}
use Prim.Native.Nat.{ℕ, ◌+◌, ◌-◌, ◌*◌, ◌/◌, ◌%◌, ◌≤◌, ◌<◌}
use Rattle.demand.specs.Demands.{ceil}
use Rattle.demand.specs.Refusals.{FairRow}
use Rattle.demand.specs.Rows.{Row, Each}
use Rattle.demand.proofs.Divide.{le-ceil-mul}
use Rattle.demand.proofs.Sums.{each_map, total-most, total-nil, total-cons}
use Rattle.verdict.specs.Loads.{work_by, work, costs, slack_by, slack, millionths}

-- ---- row by row

pub work-nil : (m : ℕ) → work m [] ≡ 0
unfolding work
work-nil m = total-nil (work_by m)

pub work-cons : (m : ℕ) (r : Row) (rs : List Row) → work m (r ∷ rs) ≡ r.cost * (m / r.period) + work m rs
unfolding work
work-cons m r rs = total-cons (work_by m) r rs

pub costs-cons : (r : Row) (rs : List Row) → costs (r ∷ rs) ≡ r.cost + costs rs
unfolding costs
costs-cons r rs = total-cons (λ r. r.cost) r rs

pub slack-cons : (m : ℕ) (r : Row) (rs : List Row) → slack m (r ∷ rs) ≡ r.cost * (m / r.period) * (r.period - r.deadline) + slack m rs
unfolding slack
slack-cons m r rs = total-cons (slack_by m) r rs

-- ---- how great they get

-- A row whose figures are in range brings at most 1,000,000 for each tick.
pub work-by-most : (m : ℕ) (r : Row) → FairRow r → work_by m r ≤ 1000000 * m
work-by-most m r f = mul-le-mul f.cost.most (div-le_self m r.period)

-- So 64 rows bring at most 64,000,000 for each.
pub work-most : (m n : ℕ) (rs : List Row) → Each FairRow rs → length rs ≤ n → work m rs ≤ n * (1000000 * m)
unfolding work
work-most m n rs fair few =
    omega (arith, total-most (1000000 * m) (work_by m) rs (each_map (work-by-most m) rs fair), mul-le-mul_right (1000000 * m) few)

-- A short deadline adds at most what the row brings: at most 1,000,000 for each tick.
pub slack-by-most : (m : ℕ) (r : Row) → FairRow r → slack_by m r ≤ 1000000 * m
slack-by-most m r f =
    let within : m / r.period * (r.period - r.deadline) ≤ m = omega (arith, div-mul-le_self m r.period, mul-le-mul_left {m = r.period - r.deadline} {n = r.period} (m / r.period) (omega arith)) in
    omega (arith, mul-le-mul f.cost.most within, mul_assoc r.cost (m / r.period) (r.period - r.deadline))

pub slack-most : (m n : ℕ) (rs : List Row) → Each FairRow rs → length rs ≤ n → slack m rs ≤ n * (1000000 * m)
unfolding slack
slack-most m n rs fair few =
    omega (arith, total-most (1000000 * m) (slack_by m) rs (each_map (slack-by-most m) rs fair), mul-le-mul_right (1000000 * m) few)

pub costs-most : (rs : List Row) → Each FairRow rs → costs rs ≤ length rs * 1000000
unfolding costs
costs-most rs fair = total-most 1000000 (λ r. r.cost) rs (each_map (λ r f. f.cost.most) rs fair)

-- Every handler costs something: only no handler costs nothing.
pub costs-zero : (hs : List Row) → Each FairRow hs → costs hs ≡ 0 → hs ≡ []
costs-zero [] fair e = refl
costs-zero (h ∷ hs) fair e = absurd (omega (arith, costs-cons h hs, fair.0.cost.least))

-- ---- the load

-- Whole times first, so that no number is longer than the remainder asks.
pub millionths-split : (w h : ℕ) → 0 < h → millionths w h ≡ 1000000 * (w / h) + (1000000 * (w % h) + (h - 1)) / h
unfolding millionths
millionths-split w h pos =
    let parts : 1000000 * w + (h - 1) ≡ h * (1000000 * (w / h)) + (1000000 * (w % h) + (h - 1)) = omega (arith, div-add-mod' w h) in
    ap (λ (x : ℕ). x / h) parts ∙ mul-add-div {m = h} pos (1000000 * (w / h)) (1000000 * (w % h) + (h - 1))

-- One million or less is said exactly where w is at most h.
pub millionths-full : (w h : ℕ) → 0 < h → (millionths w h ≤ 1000000 → w ≤ h) × (w ≤ h → millionths w h ≤ 1000000)
unfolding millionths
millionths-full w h pos =
    (λ few. omega (arith, le-ceil-mul h (1000000 * w) pos, mul-le-mul_right h few), λ light. omega (arith, rounded light))
  where
    rounded : w ≤ h → ceil (1000000 * w) h < 1000001
    rounded light = (div-lt_iff_lt-mul pos).1 (omega arith)
