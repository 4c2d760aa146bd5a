-- The demands against their share of a common multiple H of the periods: work within x ticks is at most x / H of the work within H.
use mathlib.Core.List.{List, [], ◌∷◌}
use mathlib.Core.Path.{◌≡◌, ap, sym, ◌∙◌}
use native.Mathlib.Nat.{mul-le-mul_left, mul-add, div-mul_cancel, div-mul-le_self, div-lt_iff_lt-mul, lt-div-mul-add}
use native.Mathlib.Omega.{arith}
use lib.Arith.{digits_div}
use Prim.Native.Nat.{ℕ, suc, ◌+◌, ◌-◌, ◌*◌, ◌/◌, ◌≤◌, ◌<◌, ◌∣◌}
use Rattle.demand.specs.Demands.{ceil, called, due}
use Rattle.demand.specs.Rows.{Row, Positive, Valid}
use Rattle.demand.proofs.Demands.{called-nil, called-cons, due-nil, due-cons}
use Rattle.demand.proofs.Divide.{jobs, le-ceil-mul, div-sub, div-le-jobs, jobs-mul-le}
use Rattle.verdict.specs.Loads.{work, costs, slack}
use Rattle.demand.specs.Multiples.{Divided}
use Rattle.verdict.proofs.Loads.{work-nil, work-cons, costs-cons, slack-cons}

-- ---- D is at least work

pub work-le-due : (l : ℕ) (ts : List Row) → Valid ts → work l ts ≤ due ts l
work-le-due l [] valid = omega (arith, due-nil l, work-nil l)
work-le-due l (t ∷ ts) valid =
    omega (arith, due-cons t ts l valid.0, work-cons l t ts, mul-le-mul_left t.cost (div-le-jobs l t.deadline t.period), work-le-due l ts valid.1)

-- In sum at most in parts, the first rounded up.
pub work-sub : (rs : List Row) → Positive rs → (z x : ℕ) → work (z + x) rs ≤ called rs z + work x rs
work-sub [] pos z x = omega (arith, work-nil (z + x))
work-sub (r ∷ rs) pos z x =
    omega (
      arith,
      work-cons (z + x) r rs,
      work-cons x r rs,
      called-cons r rs z,
      mul-le-mul_left r.cost (div-sub r.period z x pos.0),
      mul-add r.cost (ceil z r.period) (x / r.period),
      work-sub rs pos.1 z x,
    )

-- ---- over a common multiple nothing is left over

ceil-whole : (H p : ℕ) → 0 < p → p ∣ H → ceil H p ≡ H / p
ceil-whole H p pos d =
    let w : H + (p - 1) ≡ H / p * p + (p - 1) = omega (arith, div-mul_cancel p d) in
    ap (λ (z : ℕ). z / p) w ∙ digits_div (H / p) (omega arith)

pub called-whole : (H : ℕ) (rs : List Row) → Positive rs → Divided H rs → called rs H ≡ work H rs
called-whole H [] pos d = omega (arith, called-nil H, work-nil H)
called-whole H (r ∷ rs) pos d =
    called-cons r rs H
    ∙ ap (λ (n : ℕ). r.cost * n + called rs H) (ceil-whole H r.period pos.0 d.0)
    ∙ ap (λ (n : ℕ). r.cost * (H / r.period) + n) (called-whole H rs pos.1 d.1)
    ∙ sym (work-cons H r rs)

-- ---- shares

share-le : (q p H y x : ℕ) → q * p ≡ H → y * p ≤ x → H * y ≤ x * q
share-le q p H y x e h = omega (arith, mul-le-mul_left q h, ap (λ (z : ℕ). z * y) e)

share-ge : (q p H y x : ℕ) → q * p ≡ H → x ≤ y * p → x * q ≤ H * y
share-ge q p H y x e h = omega (arith, mul-le-mul_left q h, ap (λ (z : ℕ). z * y) e)

-- Rounded down, at most the share; called for, at least.
pub work-share : (H x : ℕ) (rs : List Row) → Positive rs → Divided H rs → H * work x rs ≤ x * work H rs
work-share H x [] pos d = rw (work-nil x, work-nil H) (omega arith)
work-share H x (r ∷ rs) pos d =
    let one : H * (x / r.period) ≤ x * (H / r.period) =
    share-le (H / r.period) r.period H (x / r.period) x (div-mul_cancel r.period d.0) (div-mul-le_self x r.period) in
    rw (work-cons x r rs, work-cons H r rs) (omega (arith, mul-le-mul_left r.cost one, work-share H x rs pos.1 d.1))

-- Due, at most the share and what short deadlines add.
pub due-share : (H x : ℕ) (ts : List Row) → Valid ts → Divided H ts → H * due ts x ≤ x * work H ts + slack H ts
due-share H x [] valid d = rw (due-nil x) (omega arith)
due-share H x (r ∷ rs) valid d =
    let one : H * jobs x r.deadline r.period ≤ (x + (r.period - r.deadline)) * (H / r.period) =
    share-le (H / r.period) r.period H (jobs x r.deadline r.period) (x + (r.period - r.deadline)) (div-mul_cancel r.period d.0) (jobs-mul-le x r.deadline r.period) in
    rw (due-cons r rs x valid.0, work-cons H r rs, slack-cons H r rs)
    (omega (arith, mul-le-mul_left r.cost one, due-share H x rs valid.1 d.1))

pub called-share : (H x : ℕ) (rs : List Row) → Positive rs → Divided H rs → x * work H rs ≤ H * called rs x
called-share H x [] pos d = rw (work-nil H, called-nil x) (omega arith)
called-share H x (r ∷ rs) pos d =
    let one : x * (H / r.period) ≤ H * ceil x r.period =
    share-ge (H / r.period) r.period H (ceil x r.period) x (div-mul_cancel r.period d.0) (le-ceil-mul r.period x pos.0) in
    rw (work-cons H r rs, called-cons r rs x) (omega (arith, mul-le-mul_left r.cost one, called-share H x rs pos.1 d.1))

-- Rounding up asks for at most one cost more of each row.
ceil-le : (p x : ℕ) → 0 < p → ceil x p ≤ suc (x / p)
ceil-le p x pos =
    let l : ceil x p < suc (suc (x / p)) = (div-lt_iff_lt-mul pos).1 (omega (arith, lt-div-mul-add {a = x} pos)) in
    omega arith

pub called-le-work : (x : ℕ) (rs : List Row) → Positive rs → called rs x ≤ work x rs + costs rs
called-le-work x [] pos = omega (arith, called-nil x)
called-le-work x (r ∷ rs) pos =
    omega (arith, called-cons r rs x, work-cons x r rs, costs-cons r rs, mul-le-mul_left r.cost (ceil-le r.period x pos.0), called-le-work x rs pos.1)
