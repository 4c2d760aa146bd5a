-- A table in finer ticks (specs/Finer): H, W, the load, what passes and the shortest length that fails.
use mathlib.Core.List.{List, [], ◌∷◌}
use mathlib.Core.Path.{◌≡◌, ap, sym, subst, ◌∙◌}
use native.Mathlib.Nat.{mul-zero, mul_comm, mul-le-mul_left, mul-div-mul_left, mul-dvd-mul_left, dvd-mul_right, dvd_trans, dvd_antisymm, dvd_of_mul-dvd-mul_left, div-mul_cancel, div-lt_iff_lt-mul}
use native.Mathlib.Omega.{arith}
use lib.ListN.{length}
use Prim.Native.Nat.{ℕ, zero, suc, ◌*◌, ◌/◌, ◌≤◌, ◌<◌, ◌∣◌}
use Rattle.demand.specs.Demands.{ceil, Passes}
use Rattle.demand.specs.Multiples.{Divided}
use Rattle.demand.specs.Rows.{Row, Positive, Valid}
use Rattle.demand.proofs.Demands.{passes-zero}
use Rattle.verdict.specs.Lengths.{AlwaysPasses, LeastFailing}
use Rattle.verdict.specs.Loads.{work, whole, millionths, load}
use Rattle.verdict.specs.Multiples.{common}
use Rattle.verdict.proofs.Divisors.{common-positive, common-tasks, common-handlers, period-divides}
use Rattle.verdict.proofs.Loads.{work-nil, work-cons}
use Rattle.units.specs.Finer.{scaled, scale}
use Rattle.units.proofs.Finer.{scale-nil, scale-cons, scale-positive, ceil-scale, ceil-times, passes-scale, fails-scale, passes-unscale}

-- ---- H

pub divided-scale : (k n : ℕ) (rs : List Row) → Divided n rs → Divided (k * n) (scale k rs)
unfolding scale
divided-scale k n [] d = tt
divided-scale k n (r ∷ rs) d = (mul-dvd-mul_left r.period k d.0, divided-scale k n rs d.1)

pub divided-unscale : (k n : ℕ) (rs : List Row) → 0 < k → Divided (k * n) (scale k rs) → Divided n rs
unfolding scale
divided-unscale k n [] pos d = tt
divided-unscale k n (r ∷ rs) pos d = (dvd_of_mul-dvd-mul_left r.period pos d.0, divided-unscale k n rs pos d.1)

-- With a row at all, a multiple of every finer period is a multiple of k.
units-divide : (k n : ℕ) (rs : List Row) → 1 ≤ length rs → Divided n (scale k rs) → k ∣ n
unfolding scale
units-divide k n [] some d = absurd (omega arith)
units-divide k n (r ∷ rs) some d = dvd_trans k (dvd-mul_right k r.period) d.0

pub common-scale : (k : ℕ) (ts hs : List Row) → 0 < k → Positive ts → Positive hs → 1 ≤ length ts → common (scale k ts) (scale k hs) ≡ k * common ts hs
common-scale k ts hs pos pt ph some = dvd_antisymm up down
  where
    m : ℕ
    m = common (scale k ts) (scale k hs)

    up : common (scale k ts) (scale k hs) ∣ k * common ts hs
    up =
        period-divides (scale k ts) (scale k hs) (k * common ts hs) (scale-positive k ts pos pt) (scale-positive k hs pos ph)
        (divided-scale k (common ts hs) ts (common-tasks ts hs)) (divided-scale k (common ts hs) hs (common-handlers ts hs))

    parts : m ≡ k * (m / k)
    parts = omega (arith, div-mul_cancel k (units-divide k m ts some (common-tasks (scale k ts) (scale k hs))))

    down : k * common ts hs ∣ common (scale k ts) (scale k hs)
    down =
        let dt : Divided (k * (m / k)) (scale k ts) = subst (λ (n : ℕ). Divided n (scale k ts)) parts (common-tasks (scale k ts) (scale k hs)) in
        let dh : Divided (k * (m / k)) (scale k hs) = subst (λ (n : ℕ). Divided n (scale k hs)) parts (common-handlers (scale k ts) (scale k hs)) in
        let coarse : common ts hs ∣ m / k = period-divides ts hs (m / k) pt ph (divided-unscale k (m / k) ts pos dt) (divided-unscale k (m / k) hs pos dh) in
        subst (λ (n : ℕ). k * common ts hs ∣ n) (sym parts) (mul-dvd-mul_left (common ts hs) k coarse)

-- ---- W and the load

pub work-scale : (k m : ℕ) (rs : List Row) → 0 < k → work (k * m) (scale k rs) ≡ k * work m rs
work-scale k m [] pos = rw (scale-nil k, work-nil (k * m), work-nil m) (omega (arith, mul-zero k))
work-scale k m (r ∷ rs) pos =
    rw (scale-cons k r rs, work-cons (k * m) (scaled k r) (scale k rs), work-cons m r rs, mul-div-mul_left m r.period pos, work-scale k m rs pos)
    (omega arith)

pub whole-scale : (k : ℕ) (ts hs : List Row) → 0 < k → Positive ts → Positive hs → 1 ≤ length ts → whole (scale k ts) (scale k hs) ≡ k * whole ts hs
unfolding whole
whole-scale k ts hs pos pt ph some =
    rw (common-scale k ts hs pos pt ph some)
    (omega (arith, work-scale k (common ts hs) ts pos, work-scale k (common ts hs) hs pos))

pub millionths-scale : (k w h : ℕ) → 0 < k → 0 < h → millionths (k * w) (k * h) ≡ millionths w h
unfolding millionths
millionths-scale k w h pos some =
    let e : 1000000 * (k * w) ≡ k * (1000000 * w) = omega arith in
    rw e (ceil-scale k (k * (1000000 * w)) h pos some ∙ ap (λ (n : ℕ). ceil n h) (ceil-times k (1000000 * w) pos))

pub load-scale : (k : ℕ) (ts hs : List Row) → 0 < k → Positive ts → Positive hs → 1 ≤ length ts → load (scale k ts) (scale k hs) ≡ load ts hs
unfolding load
load-scale k ts hs pos pt ph some =
    rw (whole-scale k ts hs pos pt ph some, common-scale k ts hs pos pt ph some) (millionths-scale k (whole ts hs) (common ts hs) pos (common-positive ts hs pt ph))

-- ---- what passes and what fails first

module _ (k : ℕ) (pos : 0 < k) (ts hs : List Row) (valid : Valid ts) (ph : Positive hs) where
  passes-whole : (l : ℕ) → ((m : ℕ) → 1 ≤ m → m ≤ l / k → Passes ts hs m) → Passes (scale k ts) (scale k hs) l
  passes-whole l passes = passes-scale k pos ts hs valid ph l (go (l / k) (omega arith))
    where
      go : (q : ℕ) → q ≤ l / k → Passes ts hs q
      go zero h = passes-zero ts hs valid
      go (suc q) h = passes (suc q) (omega arith) h

  pub always-scale : AlwaysPasses ts hs → AlwaysPasses (scale k ts) (scale k hs)
  unfolding AlwaysPasses
  always-scale passes l from = passes-whole l (λ m some h. passes m some)

  pub always-unscale : AlwaysPasses (scale k ts) (scale k hs) → AlwaysPasses ts hs
  unfolding AlwaysPasses
  always-unscale passes l from = passes-unscale k pos ts hs valid ph l (passes (k * l) (omega (arith, mul-le-mul_left k from, pos)))

  -- The shortest length that fails is k times what it was.
  pub least-scale : (l : ℕ) → LeastFailing ts hs l → LeastFailing (scale k ts) (scale k hs) (k * l)
  least-scale l f = record {
    positive = omega (arith, mul-le-mul_left k f.positive, pos);
    fails = fails-scale k pos ts hs valid ph l f.fails;
    least = λ m from h. passes-whole m (λ n some within. f.least n some (shorter m n h within));
  }
    where
      shorter : (m n : ℕ) → m < k * l → n ≤ m / k → n < l
      shorter m n h within =
          let less : m / k < l = (div-lt_iff_lt-mul pos).1 (omega (arith, mul_comm k l)) in
          omega arith
