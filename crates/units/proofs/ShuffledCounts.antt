-- A table in another order: the same idle point, and as many lengths tested.
use mathlib.Core.List.{List}
use mathlib.Core.Path.{◌≡◌, refl, ap, ◌∙◌}
use native.Mathlib.Omega.{arith}
use Prim.Native.Nat.{ℕ, zero, suc}
use Rattle.demand.specs.Demands.{called_by}
use Rattle.units.specs.Orders.{Shuffled}
use Rattle.demand.specs.Rows.{Row, Positive}
use Rattle.units.proofs.Orders.{total-shuffled, some-shuffled, called-shuffled}
use Rattle.verdict.specs.Facts.{bound}
use Rattle.verdict.specs.Idle.{asks, Idle}
use Rattle.verdict.specs.Loads.{costs, slack_by, slack}
use Rattle.verdict.specs.Multiples.{common}
use Rattle.verdict.specs.Tested.{falls, tested, yes_end, YesCount}
use Rattle.units.proofs.ShuffledLoads.{common-shuffled, whole-shuffled}

pub asks-shuffled : {ts hs us is : List Row} → Shuffled ts us → Shuffled hs is → (l : ℕ) → asks ts hs l ≡ asks us is l
unfolding asks
asks-shuffled st sh l = omega (arith, called-shuffled sh l, total-shuffled (called_by l) st)

pub idle-shuffled : {ts hs us is : List Row} → Shuffled ts us → Shuffled hs is → (z : ℕ) → Idle ts hs z → Idle us is z
idle-shuffled st sh z idle = record {
  positive = idle.positive;
  room = omega (arith, idle.room, asks-shuffled st sh z);
  least = λ l from h. omega (arith, idle.least l from h, asks-shuffled st sh l);
}

pub tested-shuffled : {ts us : List Row} → Shuffled ts us → (n : ℕ) → tested ts n ≡ tested us n
unfolding tested
tested-shuffled s zero = refl
tested-shuffled s (suc n) = rw (some-shuffled (falls (suc n)) s, tested-shuffled s n)

module _ {ts hs us is : List Row} (st : Shuffled ts us) (sh : Shuffled hs is) (pt : Positive ts) (ph : Positive hs) where
  pub bound-shuffled : bound ts hs ≡ bound us is
  unfolding bound costs slack
  bound-shuffled =
      rw (common-shuffled st sh pt ph, total-shuffled (λ r. r.cost) sh, total-shuffled (slack_by (common us is)) st)

  pub yes-end-shuffled : (z : ℕ) → yes_end ts hs z ≡ yes_end us is z
  unfolding yes_end
  yes-end-shuffled z = rw (common-shuffled st sh pt ph, whole-shuffled st sh pt ph, bound-shuffled)

  -- So is the count of a sheet that says fits.
  pub yes-count-shuffled : (n : ℕ) → YesCount ts hs n → YesCount us is n
  yes-count-shuffled n y = record {
    point = y.point;
    idle = idle-shuffled st sh y.point y.idle;
    count = y.count ∙ tested-shuffled st (yes_end ts hs y.point) ∙ ap (λ (m : ℕ). tested us m) (yes-end-shuffled y.point);
  }
