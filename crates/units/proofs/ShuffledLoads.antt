-- A table in another order (specs/Orders): H, W, the load, what passes and the shortest length that fails.
use mathlib.Core.List.{List}
use mathlib.Core.Path.{◌≡◌, sym}
use native.Mathlib.Nat.{dvd_antisymm}
use native.Mathlib.Omega.{arith}
use Prim.Native.Nat.{ℕ, ◌<◌, ◌∣◌}
use Rattle.demand.specs.Rows.{Row, Positive}
use Rattle.verdict.specs.Lengths.{AlwaysPasses, LeastFailing}
use Rattle.verdict.specs.Loads.{work_by, work, whole, load}
use Rattle.verdict.specs.Multiples.{common}
use Rattle.verdict.proofs.Divisors.{common-tasks, common-handlers, period-divides}
use Rattle.units.specs.Orders.{Shuffled}
use Rattle.units.proofs.Orders.{total-shuffled, each-shuffled, shuffled-back, passes-shuffled, fails-shuffled}

-- ---- H, W and the load

positive-shuffled : {rs qs : List Row} → Shuffled rs qs → Positive rs → Positive qs
positive-shuffled s p = each-shuffled (λ r. 0 < r.period) s p

module _ {ts hs us is : List Row} (st : Shuffled ts us) (sh : Shuffled hs is) where
  common-divides : Positive ts → Positive hs → common ts hs ∣ common us is
  common-divides pt ph =
      period-divides ts hs (common us is) pt ph
      (each-shuffled (λ r. r.period ∣ common us is) (shuffled-back st) (common-tasks us is))
      (each-shuffled (λ r. r.period ∣ common us is) (shuffled-back sh) (common-handlers us is))

pub work-shuffled : {rs qs : List Row} → Shuffled rs qs → (m : ℕ) → work m rs ≡ work m qs
unfolding work
work-shuffled s m = total-shuffled (work_by m) s

module _ {ts hs us is : List Row} (st : Shuffled ts us) (sh : Shuffled hs is) (pt : Positive ts) (ph : Positive hs) where
  pub common-shuffled : common ts hs ≡ common us is
  common-shuffled = dvd_antisymm (common-divides st sh pt ph) (common-divides (shuffled-back st) (shuffled-back sh) (positive-shuffled st pt) (positive-shuffled sh ph))

  pub whole-shuffled : whole ts hs ≡ whole us is
  unfolding whole
  whole-shuffled = rw (sym common-shuffled) (omega (arith, work-shuffled st (common ts hs), work-shuffled sh (common ts hs)))

  pub load-shuffled : load ts hs ≡ load us is
  unfolding load
  load-shuffled = rw (whole-shuffled, common-shuffled)

-- ---- what passes and what fails first

module _ {ts hs us is : List Row} (st : Shuffled ts us) (sh : Shuffled hs is) where
  pub always-shuffled : AlwaysPasses ts hs → AlwaysPasses us is
  unfolding AlwaysPasses
  always-shuffled passes l from = passes-shuffled st sh l (passes l from)

  pub least-shuffled : (l : ℕ) → LeastFailing ts hs l → LeastFailing us is l
  least-shuffled l f = record {
    positive = f.positive;
    fails = fails-shuffled st sh l f.fails;
    least = λ m from h. passes-shuffled st sh m (f.least m from h);
  }
