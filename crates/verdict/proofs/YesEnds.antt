-- The search's end on a yes (specs/Tested): the end that the facts allow, cut at the idle point; and the count up to it.
use mathlib.Core.Bool.{Bool, true, false}
use mathlib.Core.List.{List}
use mathlib.Core.Logic.{◌⊎◌, inl, inr}
use mathlib.Core.Path.{◌≡◌, refl, ap, sym, ◌∙◌}
use native.Mathlib.Nat.{le-div_iff_mul-le, div-mul-le_self, mul-le-mul_right}
use native.Mathlib.Omega.{arith}
use borrow.Author.Tests.{ltb-false}
use lib.Dec.{ltb}
use Prim.Native.Nat.{ℕ, ◌-◌, ◌*◌, ◌/◌, ◌≤◌, ◌<◌, min}
use Rattle.demand.specs.Refusals.{InRange}
use Rattle.demand.specs.Rows.{Row}
use Rattle.demand.specs.Tests.{pick}
use Rattle.demand.proofs.Divide.{le-or-lt}
use Rattle.verdict.specs.Facts.{FailsBy, bound}
use Rattle.verdict.specs.Inside.Search.{end_by, search_end}
use Rattle.verdict.specs.Idle.{Idle, IdleBy}
use Rattle.verdict.specs.Loads.{whole}
use Rattle.verdict.specs.Multiples.{common}
use Rattle.verdict.specs.Lengths.{AlwaysPasses}
use Rattle.verdict.specs.Tested.{tested, yes_end_by, yes_end, YesCount}
use Rattle.verdict.proofs.Facts.Ends.{overfull-fails, end-most}
use Rattle.verdict.proofs.Idle.{idle-where, idle-unique}

-- The search's end on a yes is the end that the facts allow, or the idle point.
pub yes-end-cut : (H W B z : ℕ) → yes_end_by H W B z ≡ min z (end_by H W B)
unfolding yes_end_by end_by
yes-end-cut H W B z = go (ltb W H)
  where
    go : (b : Bool) → pick b (min (min H z) ((B - 1) / (H - W))) (min H z) ≡ min z (pick b (min H ((B - 1) / (H - W))) H)
    go true = omega arith
    go false = omega arith

-- The greatest length that the last fact admits, where it admits one at all.
pub last-admitted : (B D l : ℕ) → 0 < D → 0 < B → (l * D < B → l ≤ (B - 1) / D) × (l ≤ (B - 1) / D → l * D < B)
last-admitted B D l pos some = (
  λ h. (le-div_iff_mul-le pos).1 (omega arith),
  λ h. omega (arith, div-mul-le_self (B - 1) D, mul-le-mul_right D h),
)

module _ (ts hs : List Row) (fair : InRange ts hs) (z : ℕ) (idle : Idle ts hs z) where
  -- A table with an idle point has W at most H.
  pub idle-light : whole ts hs ≤ common ts hs
  idle-light = go (le-or-lt (whole ts hs) (common ts hs))
    where
      go : (whole ts hs ≤ common ts hs) ⊎ (common ts hs < whole ts hs) → whole ts hs ≤ common ts hs
      go (inl light) = light
      go (inr heavy) = absurd (omega (arith, idle.room, (idle-where ts hs fair).heavy heavy z idle.positive))

  -- So it is what the code has, which looks for the idle point where W is below H, and only there.
  pub yes-end-read : (looks : Bool) → ltb (whole ts hs) (common ts hs) ≡ looks → pick looks (min z (search_end ts hs)) (search_end ts hs) ≡ yes_end ts hs z
  unfolding yes_end search_end
  yes-end-read true light = sym (yes-end-cut (common ts hs) (whole ts hs) (bound ts hs) z)
  yes-end-read false light =
      let full : whole ts hs ≡ common ts hs = omega (arith, idle-light, ltb-false (whole ts hs) (common ts hs) light) in
      let same : z ≡ common ts hs = idle-unique ts hs z (common ts hs) idle ((idle-where ts hs fair).full full) in
      let cut = yes-end-cut (common ts hs) (whole ts hs) (bound ts hs) z in
      let most = end-most (common ts hs) (whole ts hs) (bound ts hs) in
      omega (arith, cut, same, most)

-- ---- the count on a yes

-- There is one where W is at most H, so on every yes, and only one.
pub yes-count : (ts hs : List Row) → InRange ts hs → whole ts hs ≤ common ts hs → (n : ℕ) × YesCount ts hs n
yes-count ts hs fair light =
    let by : IdleBy ts hs (common ts hs) = (idle-where ts hs fair).light light in
    (tested ts (yes_end ts hs by.point), record { point = by.point; idle = by.idle; count = refl })

pub yes-count-once : (ts hs : List Row) (m n : ℕ) → YesCount ts hs m → YesCount ts hs n → m ≡ n
yes-count-once ts hs m n a b =
    a.count ∙ ap (λ (z : ℕ). tested ts (yes_end ts hs z)) (idle-unique ts hs a.point b.point a.idle b.idle) ∙ sym b.count

-- A yes has W at most H.
pub fits-light : (ts hs : List Row) → InRange ts hs → AlwaysPasses ts hs → whole ts hs ≤ common ts hs
unfolding AlwaysPasses
fits-light ts hs fair passes = go (le-or-lt (whole ts hs) (common ts hs))
  where
    go : (whole ts hs ≤ common ts hs) ⊎ (common ts hs < whole ts hs) → whole ts hs ≤ common ts hs
    go (inl light) = light
    go (inr heavy) =
        let f : FailsBy ts hs (common ts hs) = overfull-fails ts hs fair heavy in
        absurd (omega (arith, f.fails, passes f.interval f.positive))
