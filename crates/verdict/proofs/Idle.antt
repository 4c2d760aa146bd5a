-- The idle point (specs/Idle): lengths up to it decide, where it lies, and how it is found from below.
use mathlib.Core.Bool.{Bool, true, false, true≢false}
use mathlib.Core.List.{List, [], ◌∷◌}
use mathlib.Core.Logic.{◌⊎◌, inl, inr}
use mathlib.Core.Path.{◌≡◌, refl, ap, subst, sym}
use native.Mathlib.Nat.{mul-le-mul_left, le_of_mul-le-mul_left, div-mul_cancel, dvd-mul_left, le_of_dvd, eq-or-lt_of_le, le-div_iff_mul-le}
use native.Mathlib.Omega.{arith}
use borrow.Author.Tests.{ltb-true}
use lib.Dec.{ltb}
use lib.ListN.{length}
use Prim.Native.Nat.{ℕ, zero, suc, ◌+◌, ◌*◌, ◌/◌, ◌≤◌, ◌<◌, ◌∣◌, min}
use Rattle.demand.specs.Demands.{ceil, called}
use Rattle.demand.specs.Multiples.{Divided}
use Rattle.demand.specs.Refusals.{FairRow, InRange}
use Rattle.demand.specs.Rows.{Row, Each, Positive, Valid}
use Rattle.demand.proofs.Demands.{called-cons, called-mono}
use Rattle.demand.proofs.Divide.{le-or-lt, le-ceil-mul}
use Rattle.demand.proofs.Inside.Sizes.{fair-positive}
use Rattle.demand.specs.Tests.{pick}
use Rattle.verdict.specs.Facts.{PassesTo}
use Rattle.verdict.specs.Inside.Search.{search_end}
use Rattle.verdict.specs.Idle.{asks, Idle, IdleBy, NoIdle, IdleEnds, IdleWhere}
use Rattle.verdict.specs.Loads.{work, whole}
use Rattle.verdict.specs.Multiples.{common}
use Rattle.verdict.specs.Lengths.{AlwaysPasses}
use Rattle.verdict.proofs.Divisors.{common-positive, common-tasks, common-handlers, common-least}
use Rattle.verdict.proofs.Facts.Drain.{drain-ends}
use Rattle.verdict.proofs.Facts.Ends.{end-enough}
use Rattle.verdict.proofs.Facts.Shares.{called-whole, called-share}
use Rattle.verdict.proofs.Loads.{work-cons}

-- ---- what is asked for

pub asks-called : (ts hs : List Row) (l : ℕ) → asks ts hs l ≡ called hs l + called ts l
unfolding asks called
asks-called ts hs l = refl

pub asks-mono : (ts hs : List Row) {x y : ℕ} → x ≤ y → asks ts hs x ≤ asks ts hs y
asks-mono ts hs {x} {y} h = omega (arith, asks-called ts hs x, asks-called ts hs y, called-mono hs h, called-mono ts h)

-- ---- lengths up to a drain point decide

pub drain-decides : (ts hs : List Row) (z : ℕ) → Valid ts → Positive hs → 1 ≤ z → asks ts hs z ≤ z → PassesTo ts hs z → AlwaysPasses ts hs
unfolding AlwaysPasses
drain-decides ts hs z valid ph pos room passes l from = drain-ends ts hs z valid ph (record { positive = pos; room = omega (arith, asks-called ts hs z) }) passes l

pub idle-ends : (ts hs : List Row) → Valid ts → Positive hs → IdleEnds ts hs
idle-ends ts hs valid ph z idle = drain-decides ts hs z valid ph idle.positive idle.room

-- There is at most one.
idle-le : (ts hs : List Row) (y z : ℕ) → Idle ts hs y → Idle ts hs z → y ≤ z
idle-le ts hs y z a b = go (le-or-lt y z)
  where
    go : (y ≤ z) ⊎ (z < y) → y ≤ z
    go (inl h) = h
    go (inr h) = absurd (omega (arith, a.least z b.positive h, b.room))

pub idle-unique : (ts hs : List Row) (y z : ℕ) → Idle ts hs y → Idle ts hs z → y ≡ z
idle-unique ts hs y z a b = omega (arith, idle-le ts hs y z a b, idle-le ts hs z y b a)

-- ---- up to a length there is one, or there is none

-- No length from 1 up to x, x not included, drains.
abbrev pub BusyBelow : List Row → List Row → ℕ → Type 0
BusyBelow ts hs x = (l : ℕ) → 1 ≤ l → l < x → l < asks ts hs l

-- Where x asks for no more, it is the idle point.
pub busy-done : (ts hs : List Row) (x : ℕ) → 1 ≤ x → BusyBelow ts hs x → asks ts hs x ≤ x → Idle ts hs x
busy-done ts hs x pos busy room = record { positive = pos; room = room; least = busy }

-- Up to n there is one, or there is none.
pub idle-or-busy : (ts hs : List Row) (n : ℕ) → IdleBy ts hs n ⊎ BusyBelow ts hs (suc n)
idle-or-busy ts hs zero = inr (λ l from h. absurd (omega arith))
idle-or-busy ts hs (suc n) = go (idle-or-busy ts hs n) (le-or-lt (asks ts hs (suc n)) (suc n))
  where
    go : IdleBy ts hs n ⊎ BusyBelow ts hs (suc n) → (asks ts hs (suc n) ≤ suc n) ⊎ (suc n < asks ts hs (suc n)) → IdleBy ts hs (suc n) ⊎ BusyBelow ts hs (suc (suc n))
    go (inl was) s = inl (record { point = was.point; idle = was.idle; within = omega (arith, was.within) })
    go (inr busy) (inl room) = inl (record { point = suc n; idle = busy-done ts hs (suc n) (omega arith) busy room; within = omega arith })
    go (inr busy) (inr more) = inr last
      where
        last : BusyBelow ts hs (suc (suc n))
        last l from h = here (eq-or-lt_of_le {n = l} {m = suc n} (omega arith))
          where
            here : (l ≡ suc n) ⊎ (l < suc n) → l < asks ts hs l
            here (inl e) = rw e more
            here (inr m) = busy l from m

-- A length that drains has an idle point at or below it.
pub idle-by : (ts hs : List Row) (z : ℕ) → 1 ≤ z → asks ts hs z ≤ z → IdleBy ts hs z
idle-by ts hs z pos room = go (idle-or-busy ts hs z)
  where
    go : IdleBy ts hs z ⊎ BusyBelow ts hs (suc z) → IdleBy ts hs z
    go (inl by) = by
    go (inr busy) = absurd (omega (arith, busy z pos (omega arith)))

-- ---- where it lies

-- What is asked for at its share of a common multiple, and no more: every period divides the length.
divided-share : (H l : ℕ) (rs : List Row) → 0 < H → Each FairRow rs → Divided H rs → H * called rs l ≤ l * work H rs → Divided l rs
divided-share H l [] pos fair d exact = tt
divided-share H l (r ∷ rs) pos fair d exact = (here, divided-share H l rs pos fair.1 d.1 (omega (arith, split, head, tail, share-head)))
  where
    p : ℕ
    p = r.period

    q : ℕ
    q = H / r.period

    n : ℕ
    n = ceil l r.period

    whole-q : q * p ≡ H
    whole-q = div-mul_cancel r.period d.0

    some-q : 0 < q
    some-q = (le-div_iff_mul-le {x = 1} fair.0.period.least).1 (omega (arith, le_of_dvd pos d.0))

    split : H * (r.cost * n + called rs l) ≤ l * (r.cost * q + work H rs)
    split = rw (called-cons r rs l, work-cons H r rs) at exact

    tail : l * work H rs ≤ H * called rs l
    tail = called-share H l rs (fair-positive rs fair.1) d.1

    -- the row's own share, times its cost
    share : l * q ≤ H * n
    share = omega (arith, mul-le-mul_left q (le-ceil-mul r.period l fair.0.period.least), ap (λ (z : ℕ). z * n) whole-q)

    share-head : r.cost * (l * q) ≤ r.cost * (H * n)
    share-head = mul-le-mul_left r.cost share

    head : r.cost * (H * n) ≤ r.cost * (l * q)
    head = omega (arith, split, tail)

    no_more : H * n ≤ l * q
    no_more = le_of_mul-le-mul_left head fair.0.cost.least

    whole-n : n * p ≤ l
    whole-n = le_of_mul-le-mul_left {m = n * p} {n = l} {k = q} (omega (arith, no_more, ap (λ (z : ℕ). z * n) whole-q)) some-q

    here : r.period ∣ l
    here =
        let e : n * p ≡ l = omega (arith, whole-n, le-ceil-mul r.period l fair.0.period.least) in
        subst (λ (z : ℕ). r.period ∣ z) e (dvd-mul_left r.period n)

module _ (ts hs : List Row) (pt : Positive ts) (ph : Positive hs) (H : ℕ) (pos : 0 < H) (dt : Divided H ts) (dh : Divided H hs) where
  -- Within H ticks W is asked for.
  pub asks-whole : asks ts hs H ≡ work H ts + work H hs
  asks-whole = omega (arith, asks-called ts hs H, called-whole H ts pt dt, called-whole H hs ph dh)

  -- Within l ticks at least l / H of it.
  pub asks-share : (l : ℕ) → l * (work H ts + work H hs) ≤ H * asks ts hs l
  asks-share l = rw (asks-called ts hs l) (omega (arith, called-share H l ts pt dt, called-share H l hs ph dh))

  -- W at most H: H drains, so there is an idle point, at most H.
  pub light-idle : work H ts + work H hs ≤ H → IdleBy ts hs H
  light-idle light = idle-by ts hs H pos (omega (arith, asks-whole))

  -- W above H: every length asks for more than its ticks.
  pub heavy-busy : H < work H ts + work H hs → NoIdle ts hs
  heavy-busy heavy l from =
      let over : l * suc H ≤ l * (work H ts + work H hs) = mul-le-mul_left l heavy in
      go (le-or-lt (asks ts hs l) l) (omega (arith, over, asks-share l))
    where
      go : (asks ts hs l ≤ l) ⊎ (l < asks ts hs l) → l * H + l ≤ H * asks ts hs l → l < asks ts hs l
      go (inl room) much = absurd (omega (arith, much, mul-le-mul_left H room))
      go (inr more) much = more

  -- W equal to H: every period divides a length that drains.
  pub full-divided : Each FairRow ts → Each FairRow hs → work H ts + work H hs ≡ H → (l : ℕ) → asks ts hs l ≤ l → Divided l ts × Divided l hs
  full-divided ft fh full l room =
      let exact : H * (called hs l + called ts l) ≤ l * (work H ts + work H hs) =
      rw full (omega (arith, mul-le-mul_left H (rw (asks-called ts hs l) at room))) in (
        divided-share H l ts pos ft dt (omega (arith, exact, called-share H l hs ph dh)),
        divided-share H l hs pos fh dh (omega (arith, exact, called-share H l ts pt dt)),
      )

-- ---- the same of a table's own H and W

module _ (ts hs : List Row) (fair : InRange ts hs) where
  pt : Positive ts
  pt = fair-positive ts fair.tasks

  ph : Positive hs
  ph = fair-positive hs fair.handlers

  -- W equal to H: no length below H drains.
  pub full-least : whole ts hs ≡ common ts hs → (l : ℕ) → 1 ≤ l → asks ts hs l ≤ l → common ts hs ≤ l
  unfolding whole
  full-least full l from room =
      let both = full-divided ts hs pt ph (common ts hs) (common-positive ts hs pt ph) (common-tasks ts hs) (common-handlers ts hs) fair.tasks fair.handlers full l room in
      (common-least ts hs pt ph).least l from both.0 both.1

  pub idle-where : IdleWhere ts hs
  unfolding whole
  idle-where = record {
    light = light-idle ts hs pt ph (common ts hs) (common-positive ts hs pt ph) (common-tasks ts hs) (common-handlers ts hs);
    heavy = heavy-busy ts hs pt ph (common ts hs) (common-positive ts hs pt ph) (common-tasks ts hs) (common-handlers ts hs);
    full = λ full. record {
      positive = common-positive ts hs pt ph;
      room = omega (arith, full, asks-whole ts hs pt ph (common ts hs) (common-positive ts hs pt ph) (common-tasks ts hs) (common-handlers ts hs));
      least = λ l from h. below full l from h (le-or-lt (asks ts hs l) l);
    };
  }
    where
      below : whole ts hs ≡ common ts hs → (l : ℕ) → 1 ≤ l → l < common ts hs → (asks ts hs l ≤ l) ⊎ (l < asks ts hs l) → l < asks ts hs l
      below full l from h (inl room) = absurd (omega (arith, full-least full l from room))
      below full l from h (inr more) = more

  -- The search may end at the idle point, or where the facts end it, whichever comes first.
  pub idle-enough : (z : ℕ) → Idle ts hs z → PassesTo ts hs (min z (search_end ts hs)) → AlwaysPasses ts hs
  idle-enough z idle passes = go (le-or-lt z (search_end ts hs))
    where
      go : (z ≤ search_end ts hs) ⊎ (search_end ts hs < z) → AlwaysPasses ts hs
      go (inl h) = idle-ends ts hs fair.deadlines ph z idle (λ l from within. passes l from (omega arith))
      go (inr h) = end-enough ts hs fair (λ l from within. passes l from (omega arith))

  -- So may one that looks for the idle point where W is below H, and only there.
  pub looked-enough : (looks : Bool) → ltb (whole ts hs) (common ts hs) ≡ looks
      → ((z : ℕ) → (looks ≡ true → Idle ts hs z) → PassesTo ts hs (pick looks (min z (search_end ts hs)) (search_end ts hs))) → AlwaysPasses ts hs
  looked-enough true light passes =
      let by : IdleBy ts hs (common ts hs) = idle-where.light (omega (arith, ltb-true (whole ts hs) (common ts hs) light)) in
      idle-enough by.point by.idle (passes by.point (λ _. by.idle))
  looked-enough false light passes = end-enough ts hs fair (passes 0 (λ looks. absurd (true≢false (sym looks))))

-- Some task asks for something at once.
pub asks-some : (ts hs : List Row) → InRange ts hs → 1 ≤ asks ts hs 1
asks-some ts hs fair = go ts fair.tasks fair.some-task (asks-called ts hs 1)
  where
    go : (qs : List Row) → Each FairRow qs → 1 ≤ length qs → asks ts hs 1 ≡ called hs 1 + called qs 1 → 1 ≤ asks ts hs 1
    go [] all some e = absurd (omega arith)
    go (r ∷ qs) all some e =
        let one : 1 ≤ ceil 1 r.period = (le-div_iff_mul-le {x = 1} all.0.period.least).1 (omega (arith, all.0.period.least)) in
        omega (arith, e, called-cons r qs 1, mul-le-mul_left r.cost one, all.0.cost.least)
