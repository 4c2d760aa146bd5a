-- One row in numbers: cost c, period p, deadline d, and g ticks given before tick a. From when on it is owed work, is late, or lapses.
--   Busy c p g a t    a row that is given every tick from a on is owed work at t
--   Lasts c p g a k   the work of its first k arrivals lasts until the next, at k periods
use mathlib.Core.Logic.{◌⊎◌, inl, inr, ◌↔◌}
use mathlib.Core.Path.{◌≡◌}
use native.Mathlib.Nat.{mul-suc, mul_comm, mul-sub, mul-le-mul_left}
use native.Mathlib.Nat.{mul-le-mul_right, le-div_iff_mul-le, div-lt_iff_lt-mul, lt-div-mul-add, div-mul-le_self}
use native.Mathlib.Omega.{arith}
use Prim.Native.Nat.{ℕ, suc, ◌+◌, ◌-◌, ◌*◌, ◌/◌, ◌≤◌, ◌<◌}
use Rattle.demand.specs.Demands.{ceil}
use Rattle.demand.proofs.Divide.{jobs, le-or-lt, ceil-mono, le-ceil-mul}
use Rattle.segments.specs.Inside.{due_after, lapse_at, lapse_tick}

-- A row that is not given ticks: from when on it is owed work, and from when on it is late. (g ticks given, cost c, period p, deadline d.)
pub waits-iff : (c p g t : ℕ) → 0 < c → 0 < p → (g < c * ceil (suc t) p) ↔ (g / c * p ≤ t)
waits-iff c p g t hc hp = (to, from)
  where
    k : ℕ
    k = g / c

    lo : k * c ≤ g
    lo = div-mul-le_self g c

    hi : g < k * c + c
    hi = lt-div-mul-add {a = g} hc

    to : g < c * ceil (suc t) p → k * p ≤ t
    to h =
        let l : k < ceil (suc t) p = (div-lt_iff_lt-mul hc).1 (omega (arith, mul_comm c (ceil (suc t) p))) in
        let m : suc k * p ≤ ceil (suc t) p * p = mul-le-mul_right p l in
        omega (arith, div-mul-le_self (suc t + (p - 1)) p)

    from : k * p ≤ t → g < c * ceil (suc t) p
    from h =
        let l : suc k ≤ ceil (suc t) p = (le-div_iff_mul-le hp).1 (omega arith) in
        omega (arith, mul-le-mul_left c l, hi, mul-suc c k, mul_comm c k)

-- A deadline behind t is that of a job that is not counted.
pub jobs-lt : (k d p t : ℕ) → 0 < p → d ≤ p → t < k * p + d → jobs t d p ≤ k
jobs-lt k d p t pos fits h =
    let l : jobs t d p < suc k = (div-lt_iff_lt-mul pos).1 (omega arith) in
    omega arith

-- It lies behind a.
pub due-after : (d p a : ℕ) → 0 < p → d ≤ p → a < due_after d p a
due-after d p a pos fits = omega (arith, lt-div-mul-add {a = a + (p - d)} pos)

-- A row that is given every tick from a on: where its first deadline behind a is met, all are.
pub run-in-time : (c p d g a k : ℕ) → 0 < p → d ≤ p → g ≤ a → c * suc (jobs a d p) ≤ g + (due_after d p a - a) → jobs a d p ≤ k
    → c * suc k ≤ g + (k * p + d - a)
run-in-time c p d g a k pos fits low first l = go (le-or-lt c p)
  where
    q : ℕ
    q = jobs a d p

    e : ℕ
    e = k - q

    far : a < q * p + d
    far = due-after d p a pos fits

    go : (c ≤ p) ⊎ (p < c) → c * suc k ≤ g + (k * p + d - a)
    go (inl h) =
        let s : k ≡ q + e = omega arith in
        let m : e * c ≤ e * p = mul-le-mul_left e h in
        rw s (omega (arith, first, far, mul_comm c e))
    go (inr h) = absurd (omega (arith, first, far, mul-le-mul_right q h, mul_comm q c, mul_comm q p, mul-suc c q))

-- A row that is given every tick from a on, with g given before: is it owed work at t?
abbrev pub Busy : ℕ → ℕ → ℕ → ℕ → ℕ → Type 0
Busy c p g a t = g + (t - a) < c * ceil (suc t) p

-- The work of its first k arrivals lasts until the next arrival, at k * p.
abbrev pub Lasts : ℕ → ℕ → ℕ → ℕ → ℕ → Type 0
Lasts c p g a k = k * p + g ≤ a + c * k

-- If it lasts for all arrivals from the present on and before the m-th, then it is busy up to when the work of m arrivals is done ..
pub busy-until : (c p g a m t : ℕ) → 0 < p → ((k : ℕ) → ceil (suc a) p ≤ k → k < m → Lasts c p g a k) → a ≤ t → g + (t - a) < c * m
    → Busy c p g a t
busy-until c p g a m t pos lasts l short = go (le-or-lt m q)
  where
    q : ℕ
    q = ceil (suc t) p

    go : (m ≤ q) ⊎ (q < m) → g + (t - a) < c * q
    go (inl h) = omega (arith, mul-le-mul_left c h)
    go (inr h) = omega (arith, lasts q (ceil-mono p (omega arith)) h, le-ceil-mul p (suc t) pos)

-- .. and is idle there if that is before the arrival at m * p.
pub lapses : (c p g a m : ℕ) → 0 < p → g ≤ c * m → a + c * m < m * p + g → ¬ Busy c p g a (a + (c * m - g))
lapses c p g a m pos low short busy =
    let t : ℕ = a + (c * m - g) in
    let l : ceil (suc t) p < suc m = (div-lt_iff_lt-mul pos).1 (omega arith) in
    let n : ceil (suc t) p ≤ m = omega arith in
    omega (arith, mul-le-mul_left c n)

-- Where the cost is at least the period, work that lasts once lasts for ever.
pub lasts-ever : (c p g a n k : ℕ) → p ≤ c → Lasts c p g a n → n ≤ k → Lasts c p g a k
lasts-ever c p g a n k h l m =
    let e : ℕ = k - n in
    let s : k ≡ n + e = omega arith in
    rw s (omega (arith, mul-le-mul_left e h, mul_comm c e))

-- So it is owed work at every tick.
pub busy-ever : (c p g a t : ℕ) → 0 < p → p ≤ c → Lasts c p g a (ceil (suc a) p) → a ≤ t → Busy c p g a t
busy-ever c p g a t pos h l m =
    let q : ℕ = ceil (suc t) p in
    omega (arith, lasts-ever c p g a (ceil (suc a) p) q h l (ceil-mono p (omega arith)), le-ceil-mul p (suc t) pos)

-- Work lasts up to that arrival,
pub lasts-before : (c p g a k : ℕ) → c < p → ceil (suc a) p ≤ k → k < lapse_at c p g a → Lasts c p g a k
lasts-before c p g a k h l m =
    let q : k ≤ (a - g) / (p - c) = omega arith in
    let n : k * (p - c) ≤ a - g = (le-div_iff_mul-le {k = p - c} (omega arith)).0 q in
    go (le-or-lt g a) n
  where
    one : 0 < ceil (suc a) p
    one = (le-div_iff_mul-le {k = p} (omega arith)).1 (omega arith)

    go : (g ≤ a) ⊎ (a < g) → k * (p - c) ≤ a - g → Lasts c p g a k
    go (inl f) n = omega (arith, mul-sub k p c, mul_comm c k, mul-le-mul_left {m = c} {n = p} k (omega arith))
    go (inr f) n =
        let z : 1 * (p - c) ≤ k * (p - c) = mul-le-mul_right (p - c) (omega (arith, one)) in
        absurd (omega (arith, z))

-- and not to it.
pub lapse-short : (c p g a : ℕ) → c < p → a + c * lapse_at c p g a < lapse_at c p g a * p + g
lapse-short c p g a h =
    let m : ℕ = lapse_at c p g a in
    let s : suc ((a - g) / (p - c)) * (p - c) ≤ m * (p - c) = mul-le-mul_right (p - c) (omega arith) in
    let d : a - g < (a - g) / (p - c) * (p - c) + (p - c) = lt-div-mul-add {a = a - g} {b = p - c} (omega arith) in
    omega (arith, s, d, mul-sub m p c, mul_comm c m, mul-le-mul_left {m = c} {n = p} m (omega arith))

-- It is owed work before,
pub busy-before : (c p g a t : ℕ) → c < p → a ≤ t → t < lapse_tick c p g a → Busy c p g a t
busy-before c p g a t h l m = busy-until c p g a (lapse_at c p g a) t (omega arith) (λ k n o. lasts-before c p g a k h n o) l (omega arith)

-- and none then.
pub lapse-idle : (c p g a : ℕ) → c < p → g ≤ c * ceil (suc a) p → ¬ Busy c p g a (lapse_tick c p g a)
lapse-idle c p g a h low =
    let m : c * ceil (suc a) p ≤ c * lapse_at c p g a = mul-le-mul_left c (omega arith) in
    lapses c p g a (lapse_at c p g a) (omega arith) (omega arith) (lapse-short c p g a h)

-- And for a cost that is not: where the present work does not last, and else never.
pub busy-first : (c p g a t : ℕ) → 0 < p → a ≤ t → t < a + (c * ceil (suc a) p - g) → Busy c p g a t
busy-first c p g a t pos l m = busy-until c p g a (ceil (suc a) p) t pos (λ k n o. absurd (omega arith)) l (omega arith)
