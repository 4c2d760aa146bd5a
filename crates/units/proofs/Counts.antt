-- A table in finer ticks: its idle point is k times what it was, and as many lengths are tested.
use mathlib.Core.List.{List, [], ◌∷◌}
use mathlib.Core.Logic.{◌⊎◌, inl, inr}
use mathlib.Core.Path.{◌≡◌, refl, ap, sym, ◌∙◌}
use native.Mathlib.Nat.{mul-zero, mul-suc, mul-sub, mul_comm, mul-pos, mul-le-mul_left, mul-div_right, mul-div-mul_left, div-div-eq-div-mul, div-add-mod', mod-lt, zero-div}
use native.Mathlib.Numerals.{add-one}
use native.Mathlib.Omega.{arith}
use borrow.Author.Tests.{lt-ltb, le-ltb}
use lib.Arith.{digits_div}
use lib.Dec.{ltb}
use lib.ListN.{length}
use Prim.Native.Nat.{ℕ, zero, suc, ◌+◌, ◌-◌, ◌*◌, ◌/◌, ◌%◌, ◌≤◌, ◌<◌, min}
use Rattle.demand.specs.Demands.{ceil, due}
use Rattle.demand.specs.Refusals.{FairRow, InRange}
use Rattle.demand.specs.Rows.{Row, Each, Positive, Valid, total}
use Rattle.demand.specs.Tests.{pick}
use Rattle.demand.proofs.Demands.{due-mono}
use Rattle.demand.proofs.Divide.{le-or-lt, le-ceil-mul, div_mono}
use Rattle.demand.proofs.Inside.Sizes.{fair-positive}
use Rattle.verdict.specs.Facts.{bound}
use Rattle.verdict.specs.Idle.{asks, Idle}
use Rattle.verdict.specs.Loads.{whole, costs, slack}
use Rattle.verdict.specs.Multiples.{common}
use Rattle.verdict.specs.Tested.{tested, yes_end_by, yes_end, YesCount}
use Rattle.verdict.proofs.Idle.{asks-called, asks-mono, asks-some}
use Rattle.verdict.proofs.Loads.{costs-cons, slack-cons}
use Rattle.verdict.proofs.Tested.{tested-zero, tested-flat, tested-due}
use Rattle.units.specs.Finer.{scaled, scale}
use Rattle.units.proofs.Finer.{scale-nil, scale-cons, scale-valid, ceil-times, called-scale, due-scale, due-times}
use Rattle.units.proofs.Loads.{common-scale, whole-scale}

-- ---- the idle point

pub asks-scale : (k l : ℕ) (ts hs : List Row) → 0 < k → Positive ts → Positive hs → asks (scale k ts) (scale k hs) l ≡ k * asks ts hs (ceil l k)
asks-scale k l ts hs pos pt ph =
    rw (asks-called (scale k ts) (scale k hs) l, asks-called ts hs (ceil l k)) (omega (arith, called-scale k l ts pos pt, called-scale k l hs pos ph))

-- The idle point asks for all its ticks.
idle-exact : (ts hs : List Row) (z : ℕ) → 1 ≤ asks ts hs 1 → Idle ts hs z → asks ts hs z ≡ z
idle-exact ts hs zero some idle = absurd (omega (arith, idle.positive))
idle-exact ts hs (suc zero) some idle = omega (arith, idle.room)
idle-exact ts hs (suc (suc y)) some idle =
    omega (arith, idle.room, idle.least (suc y) (omega arith) (omega arith), asks-mono ts hs {x = suc y} {y = suc (suc y)} (omega arith))

pub idle-scale : (k : ℕ) (ts hs : List Row) (z : ℕ) → 0 < k → Positive ts → Positive hs → 1 ≤ asks ts hs 1 → Idle ts hs z → Idle (scale k ts) (scale k hs) (k * z)
idle-scale k ts hs z pos pt ph some idle = record {
  positive = omega (arith, mul-le-mul_left k idle.positive, pos);
  room = omega (arith, asks-scale k (k * z) ts hs pos pt ph, ap (λ (n : ℕ). k * asks ts hs n) (ceil-times k z pos), mul-le-mul_left k idle.room);
  least = λ l from h. go l from h (le-or-lt z (ceil l k));
}
  where
    first : (l : ℕ) → 1 ≤ l → 1 ≤ ceil l k
    first l from = go (ceil l k) (le-ceil-mul k l pos)
      where
        go : (n : ℕ) → l ≤ n * k → 1 ≤ n
        go zero h = absurd (omega arith)
        go (suc n) h = omega arith

    go : (l : ℕ) → 1 ≤ l → l < k * z → (z ≤ ceil l k) ⊎ (ceil l k < z) → l < asks (scale k ts) (scale k hs) l
    go l from h (inl up) =
        let most : k * z ≤ k * asks ts hs (ceil l k) = mul-le-mul_left k (omega (arith, asks-mono ts hs up, idle-exact ts hs z some idle)) in
        omega (arith, asks-scale k l ts hs pos pt ph, most)
    go l from h (inr down) =
        let more : k * suc (ceil l k) ≤ k * asks ts hs (ceil l k) = mul-le-mul_left k (idle.least (ceil l k) (first l from) down) in
        omega (arith, asks-scale k l ts hs pos pt ph, more, mul-suc k (ceil l k), le-ceil-mul k l pos, mul_comm k (ceil l k))

-- ---- the count

block-div : (k n j : ℕ) → j < k → (k * n + j) / k ≡ n
block-div k n j h =
    let e : k * n + j ≡ n * k + j = omega (arith, mul_comm k n) in
    ap (λ (z : ℕ). z / k) e ∙ digits_div n h

-- Within the next k ticks no more falls due.
due-block : (k n j : ℕ) (ts : List Row) → j < k → Valid ts → due (scale k ts) (k * n + j) ≡ k * due ts n
due-block k n j ts h valid = due-scale k (k * n + j) ts (omega arith) valid ∙ ap (λ (m : ℕ). k * due ts m) (block-div k n j h)

module _ (k : ℕ) (pos : 0 < k) (ts : List Row) (fair : Each FairRow ts) (valid : Valid ts) (finer : Each FairRow (scale k ts)) where
  fine : Valid (scale k ts)
  fine = scale-valid k ts pos valid

  -- so no more is counted.
  tested-block : (n j : ℕ) → j < k → tested (scale k ts) (k * n + j) ≡ tested (scale k ts) (k * n)
  tested-block n j h =
      tested-flat (scale k ts) finer fine (k * n) j (due-block k n j ts h valid ∙ sym (due-times k n ts pos valid))

  -- A length is counted where k times it is.
  tested-next : (n : ℕ) → (due ts (suc n) ≤ due ts n) ⊎ (due ts n < due ts (suc n)) → tested (scale k ts) (k * n) ≡ tested ts n
      → tested (scale k ts) (k * suc n) ≡ tested ts (suc n)
  tested-next n (inl none) was =
      let e : k * n + k ≡ k * suc n = omega (arith, mul-suc k n) in
      let here : due ts (suc n) ≡ due ts n = omega (arith, none, due-mono ts (fair-positive ts fair) {x = n} {y = suc n} (omega arith)) in
      let stay : tested ts (suc n) ≡ tested ts n = rw (add-one n) at (tested-flat ts fair valid n 1 (rw (add-one n) here)) in
      let far : due (scale k ts) (k * n + k) ≡ due (scale k ts) (k * n) =
      rw e (due-times k (suc n) ts pos valid ∙ ap (λ (m : ℕ). k * m) here ∙ sym (due-times k n ts pos valid)) in
      (rw e at (tested-flat (scale k ts) finer fine (k * n) k far)) ∙ was ∙ sym stay
  tested-next n (inr more) was =
      let e : k * suc n ≡ suc (k * n + (k - 1)) = omega (arith, mul-suc k n) in
      let most : k * suc (due ts n) ≤ k * due ts (suc n) = mul-le-mul_left k more in
      let top : due (scale k ts) (suc (k * n + (k - 1))) ≡ k * due ts (suc n) = rw e at (due-times k (suc n) ts pos valid) in
      let up : due (scale k ts) (k * n + (k - 1)) < due (scale k ts) (suc (k * n + (k - 1))) =
      omega (arith, top, due-block k n (k - 1) ts (omega arith) valid, most, mul-suc k (due ts n)) in
      ap (λ (m : ℕ). tested (scale k ts) m) e
      ∙ tested-due (scale k ts) finer fine (k * n + (k - 1)) up
      ∙ ap suc (tested-block n (k - 1) (omega arith) ∙ was)
      ∙ sym (tested-due ts fair valid n more)

pub tested-times : (k n : ℕ) (ts : List Row) → 0 < k → Each FairRow ts → Valid ts → Each FairRow (scale k ts) → tested (scale k ts) (k * n) ≡ tested ts n
tested-times k zero ts pos fair valid finer = rw (mul-zero k) (tested-zero (scale k ts) ∙ sym (tested-zero ts))
tested-times k (suc n) ts pos fair valid finer =
    tested-next k pos ts fair valid finer n (le-or-lt (due ts (suc n)) (due ts n)) (tested-times k n ts pos fair valid finer)

-- At any length.
pub tested-scale : (k l : ℕ) (ts : List Row) → 0 < k → Each FairRow ts → Valid ts → Each FairRow (scale k ts) → tested (scale k ts) l ≡ tested ts (l / k)
tested-scale k l ts pos fair valid finer =
    let e : k * (l / k) + l % k ≡ l = omega (arith, div-add-mod' l k, mul_comm k (l / k)) in
    (rw e at (tested-block k pos ts fair valid finer (l / k) (l % k) (mod-lt l pos))) ∙ tested-times k (l / k) ts pos fair valid finer

-- ---- the search's end on a yes

costs-nil : costs [] ≡ 0
unfolding costs total
costs-nil = refl

slack-nil : (m : ℕ) → slack m [] ≡ 0
unfolding slack total
slack-nil m = refl

pub costs-scale : (k : ℕ) (hs : List Row) → costs (scale k hs) ≡ k * costs hs
costs-scale k [] = rw (scale-nil k, costs-nil) (omega (arith, mul-zero k))
costs-scale k (r ∷ hs) = rw (scale-cons k r hs, costs-cons (scaled k r) (scale k hs), costs-cons r hs, costs-scale k hs) (omega arith)

pub slack-scale : (k m : ℕ) (ts : List Row) → 0 < k → slack (k * m) (scale k ts) ≡ k * (k * slack m ts)
slack-scale k m [] pos = rw (scale-nil k, slack-nil (k * m), slack-nil m) (omega (arith, mul-zero k))
slack-scale k m (r ∷ ts) pos =
    let e : k * r.period - k * r.deadline ≡ k * (r.period - r.deadline) = sym (mul-sub k r.period r.deadline) in
    rw (scale-cons k r ts, slack-cons (k * m) (scaled k r) (scale k ts), slack-cons m r ts, mul-div-mul_left m r.period pos, e, slack-scale k m ts pos)
    (omega arith)

pub bound-scale : (k : ℕ) (ts hs : List Row) → 0 < k → Positive ts → Positive hs → 1 ≤ length ts → bound (scale k ts) (scale k hs) ≡ k * (k * bound ts hs)
unfolding bound
bound-scale k ts hs pos pt ph some =
    rw (common-scale k ts hs pos pt ph some, costs-scale k hs, slack-scale k (common ts hs) ts pos) (omega arith)

min-div : (k a b : ℕ) → min a b / k ≡ min (a / k) (b / k)
min-div k a b = go (le-or-lt a b)
  where
    go : (a ≤ b) ⊎ (b < a) → min a b / k ≡ min (a / k) (b / k)
    go (inl h) =
        let e : min a b ≡ a = omega arith in
        rw e (omega (arith, div_mono k h))
    go (inr h) =
        let e : min a b ≡ b = omega arith in
        let f : b / k ≤ a / k = div_mono k (omega arith) in
        rw e (omega (arith, f))

-- The greatest length that the last fact admits, in whole old ticks.
last-scale : (k B D : ℕ) → 0 < k → (k * (k * B) - 1) / (k * D) / k ≡ (B - 1) / D
last-scale k B D pos =
    let x : ℕ = k * (k * B) - 1 in
    let e : k * D * k ≡ k * k * D = omega arith in
    div-div-eq-div-mul x (k * D) k ∙ ap (λ (z : ℕ). x / z) e ∙ sym (div-div-eq-div-mul x (k * k) D) ∙ ap (λ (z : ℕ). z / D) (inner B)
  where
    square : 0 < k * k
    square = mul-pos pos pos

    inner : (b : ℕ) → (k * (k * b) - 1) / (k * k) ≡ b - 1
    inner zero =
        let e : k * (k * 0) - 1 ≡ 0 = omega (arith, mul-zero k, ap (λ (z : ℕ). k * z) (mul-zero k)) in
        rw e (zero-div (k * k))
    inner (suc b) =
        let e : k * (k * suc b) - 1 ≡ b * (k * k) + (k * k - 1) = omega (arith, square) in
        let f : suc b - 1 ≡ b = omega arith in
        rw (e, f) (digits_div b (omega (arith, square)))

pub yes-end-times : (k H W B z : ℕ) → 0 < k → yes_end_by (k * H) (k * W) (k * (k * B)) (k * z) / k ≡ yes_end_by H W B z
unfolding yes_end_by
yes-end-times k H W B z pos = go (le-or-lt H W)
  where
    both : min (k * H) (k * z) / k ≡ min H z
    both = rw (min-div k (k * H) (k * z), mul-div_right H pos, mul-div_right z pos)

    diff : k * H - k * W ≡ k * (H - W)
    diff = sym (mul-sub k H W)

    go : (H ≤ W) ⊎ (W < H)
        → pick (ltb (k * W) (k * H)) (min (min (k * H) (k * z)) ((k * (k * B) - 1) / (k * H - k * W))) (min (k * H) (k * z)) / k
        ≡ pick (ltb W H) (min (min H z) ((B - 1) / (H - W))) (min H z)
    go (inl h) = rw (le-ltb W H h, le-ltb (k * W) (k * H) (mul-le-mul_left k h)) both
    go (inr h) =
        let less : k * W < k * H = omega (arith, mul-le-mul_left k h, mul-suc k W) in
        rw (lt-ltb W H h, lt-ltb (k * W) (k * H) less, min-div k (min (k * H) (k * z)) ((k * (k * B) - 1) / (k * H - k * W)), both, diff, last-scale k B (H - W) pos)

-- As many lengths are tested up to it: the count of a sheet that says fits is kept.
module _ (k : ℕ) (pos : 0 < k) (ts hs : List Row) (fair : InRange ts hs) (finer : InRange (scale k ts) (scale k hs)) where
  pt : Positive ts
  pt = fair-positive ts fair.tasks

  ph : Positive hs
  ph = fair-positive hs fair.handlers

  yes-count-scale : (z : ℕ) → tested (scale k ts) (yes_end (scale k ts) (scale k hs) (k * z)) ≡ tested ts (yes_end ts hs z)
  unfolding yes_end
  yes-count-scale z =
      rw (common-scale k ts hs pos pt ph fair.some-task, whole-scale k ts hs pos pt ph fair.some-task, bound-scale k ts hs pos pt ph fair.some-task)
      (tested-scale k (yes_end_by (k * common ts hs) (k * whole ts hs) (k * (k * bound ts hs)) (k * z)) ts pos fair.tasks fair.deadlines finer.tasks
      ∙ ap (λ (n : ℕ). tested ts n) (yes-end-times k (common ts hs) (whole ts hs) (bound ts hs) z pos))

pub yes-count-times : (k n : ℕ) (ts hs : List Row) → 0 < k → InRange ts hs → InRange (scale k ts) (scale k hs) → YesCount ts hs n → YesCount (scale k ts) (scale k hs) n
yes-count-times k n ts hs pos fair finer y = record {
  point = k * y.point;
  idle = idle-scale k ts hs y.point pos (fair-positive ts fair.tasks) (fair-positive hs fair.handlers) (asks-some ts hs fair) y.idle;
  count = y.count ∙ sym (yes-count-scale k pos ts hs fair finer y.point);
}
