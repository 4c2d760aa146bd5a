-- Division rounded down and up, and the one count of jobs that all demands share. Nobody else divides by a period.
--   jobs k d p   == arrivals a period p apart, the first at the first tick of k, that have their deadline, d ticks later, within k ticks
--   le-or-lt     which of two numbers is the greater, to split a proof in two
use mathlib.Core.Logic.{◌⊎◌, inl, inr}
use mathlib.Core.Path.{◌≡◌, refl, ap, sym, ◌∙◌}
use native.Mathlib.Decide.{dec_le}
use native.Mathlib.Nat.{div-zero, div-mul-le_self, le-div_iff_mul-le, div-lt_iff_lt-mul, div-eq-sub-div, div-eq_of_lt, div-eq_of_lt-le, lt-div-mul-add, mul-le-mul_left, div-le_self}
use native.Mathlib.Omega.{arith}
use borrow.Author.Tests.{le-ltb, lt-ltb}
use Prim.Native.Nat.{ℕ, zero, suc, ◌+◌, ◌-◌, ◌*◌, ◌/◌, ◌≤◌, ◌<◌}
use Rattle.std.specs.Int.{div_ceil}
use Rattle.std.proofs.lemmas.Grind.{div_ceil_times}
use Rattle.walk.specs.Queue.{events}
use Rattle.walk.proofs.Queue.{events-none}
use Rattle.demand.specs.Demands.{ceil, within}

-- (k - d) / p rounded down and one more if d ≤ k, else 0, for d from 1 to p.
abbrev pub jobs : ℕ → ℕ → ℕ → ℕ
jobs k d p = (k + (p - d)) / p

pub le-or-lt : (a b : ℕ) → (a ≤ b) ⊎ (b < a)
le-or-lt a b = go (dec_le a b)
  where
    go : Dec (a ≤ b) → (a ≤ b) ⊎ (b < a)
    go (yes h) = inl h
    go (no h) = inr (omega arith)

pub div_mono : (p : ℕ) {x y : ℕ} → x ≤ y → x / p ≤ y / p
div_mono zero {x} {y} h = omega (arith, div-zero x, div-zero y)
div_mono (suc p) {x} {y} h = (le-div_iff_mul-le {k = suc p} (omega arith)).1 (omega (arith, div-mul-le_self x (suc p)))

-- What D counts, as one division.
pub within-jobs : (k d p : ℕ) → 0 < p → d ≤ p → within k d p ≡ jobs k d p
within-jobs k d p pos l = go (le-or-lt d k)
  where
    go : (d ≤ k) ⊎ (k < d) → within k d p ≡ jobs k d p
    go (inl h) =
        let one : jobs k d p ≡ (k + (p - d) - p) / p + 1 = div-eq-sub-div pos (omega arith) in
        let e : k + (p - d) - p ≡ k - d = omega arith in
        rw (le-ltb k d h) (sym (one ∙ ap (λ (z : ℕ). z / p + 1) e))
    go (inr h) = rw (lt-ltb k d h) (sym (div-eq_of_lt (omega arith)))

-- The same of a walk's events,
pub events-within : (x d p : ℕ) → 0 < p → events x d p ≡ within x d p
events-within x d p pos = go (le-or-lt d x)
  where
    go : (d ≤ x) ⊎ (x < d) → events x d p ≡ within x d p
    go (inl h) =
        let one : (x + p - d) / p ≡ (x + p - d - p) / p + 1 = div-eq-sub-div pos (omega arith) in
        let e : x + p - d - p ≡ x - d = omega arith in
        rw (le-ltb x d h) (one ∙ ap (λ (z : ℕ). z / p + 1) e)
    go (inr h) = rw (lt-ltb x d h) (events-none x d p h)

-- and of those from the first tick on what A counts.
pub events-ceil : (x p : ℕ) → 0 < p → events x 1 p ≡ ceil x p
events-ceil x p pos = let e : x + p - 1 ≡ x + (p - 1) = omega arith in ap (λ (z : ℕ). z / p) e

-- A longer interval counts no fewer, a longer period and a later deadline no more.
pub within-le : (x y d e p q : ℕ) → 0 < q → x ≤ y → q ≤ p → e ≤ d → within x d p ≤ within y e q
within-le x y d e p q pos h l m = go (le-or-lt d x)
  where
    fewer : (x - d) / p ≤ (y - e) / q
    fewer = (le-div_iff_mul-le pos).1 (omega (arith, div-mul-le_self (x - d) p, mul-le-mul_left ((x - d) / p) l))

    go : (d ≤ x) ⊎ (x < d) → within x d p ≤ within y e q
    go (inl k) = rw (le-ltb x d k, le-ltb y e (omega arith)) (omega (arith, fewer))
    go (inr k) = rw (lt-ltb x d k) (omega arith)

-- At most one for each tick, and one more.
pub within-most : (k d p : ℕ) → within k d p ≤ k + 1
within-most k d p = go (le-or-lt d k)
  where
    go : (d ≤ k) ⊎ (k < d) → within k d p ≤ k + 1
    go (inl h) = rw (le-ltb k d h) (omega (arith, div-le_self (k - d) p))
    go (inr h) = rw (lt-ltb k d h) (omega arith)

pub jobs-mono : (d p : ℕ) {x y : ℕ} → x ≤ y → jobs x d p ≤ jobs y d p
jobs-mono d p h = div_mono p (omega arith)

-- Nothing that has its deadline later.
pub jobs-none : (k d p : ℕ) → k < d → d ≤ p → jobs k d p ≡ 0
jobs-none k d p h l = div-eq_of_lt (omega arith)

-- An arrival counted at once, and not again for a period.
pub jobs-arrive : (k d p : ℕ) → 0 < d → d ≤ p → d ≤ k → suc (jobs (k - p) d p) ≡ jobs k d p
jobs-arrive k d p pos l h = go (le-or-lt p k)
  where
    one : jobs k d p ≡ (k + (p - d) - p) / p + 1
    one = div-eq-sub-div (omega arith) (omega arith)

    go : (p ≤ k) ⊎ (k < p) → suc (jobs (k - p) d p) ≡ jobs k d p
    go (inl m) =
        let e : k - p + (p - d) ≡ k + (p - d) - p = omega arith in
        omega (arith, one, ap (λ (z : ℕ). z / p) e)
    go (inr m) =
        let early : jobs (k - p) d p ≡ 0 = div-eq_of_lt (omega arith) in
        let late : (k + (p - d) - p) / p ≡ 0 = div-eq_of_lt (omega arith) in
        omega (arith, one)

pub le-ceil-mul : (p z : ℕ) → 0 < p → z ≤ ceil z p * p
le-ceil-mul p z pos = omega (arith, lt-div-mul-add {a = z + (p - 1)} pos)

-- A count up to z + x: at most a count rounded up to z and one from there.
pub div-sub : (p z x : ℕ) → 0 < p → (z + x) / p ≤ ceil z p + x / p
div-sub p z x pos =
    let l : (z + x) / p < suc (ceil z p + x / p) = (div-lt_iff_lt-mul pos).1 (omega (arith, le-ceil-mul p z pos, lt-div-mul-add {a = x} pos)) in
    omega arith

pub jobs-sub : (d p z x : ℕ) → 0 < p → jobs (z + x) d p ≤ ceil z p + jobs x d p
jobs-sub d p z x pos =
    let e : z + x + (p - d) ≡ z + (x + (p - d)) = omega arith in
    omega (arith, div-sub p z (x + (p - d)) pos, ap (λ (y : ℕ). y / p) e)

-- At least as many as have a whole period.
pub div-le-jobs : (k d p : ℕ) → k / p ≤ jobs k d p
div-le-jobs k d p = div_mono p (omega arith)

-- All their periods: at most the ticks and what their deadlines save.
pub jobs-mul-le : (k d p : ℕ) → jobs k d p * p ≤ k + (p - d)
jobs-mul-le k d p = div-mul-le_self (k + (p - d)) p

-- A longer period and a later deadline count no more.
pub jobs-longer : (x d e p q : ℕ) → 0 < q → q ≤ p → e ≤ d → jobs x d p ≤ jobs x e q
jobs-longer x d e p q pos h l = go (jobs x d p) refl
  where
    go : (y : ℕ) → jobs x d p ≡ y → y ≤ jobs x e q
    go zero f = omega arith
    go (suc y) f =
        let m : suc y * p ≤ x + (p - d) = rw f at (jobs-mul-le x d p) in
        (le-div_iff_mul-le pos).1 (omega (arith, m, mul-le-mul_left y h))

-- ---- rounding up: jobs that have one tick

pub ceil-mono : (a : ℕ) {x y : ℕ} → x ≤ y → ceil x a ≤ ceil y a
ceil-mono a h = jobs-mono 1 a h

pub ceil-zero : (a : ℕ) → ceil 0 a ≡ 0
ceil-zero zero = refl
ceil-zero (suc a) = jobs-none 0 1 (suc a) (omega arith) (omega arith)

pub ceil-arrive : (a l : ℕ) → 0 < a → suc (ceil (suc l - a) a) ≤ ceil (suc l) a
ceil-arrive a l pos = omega (arith, jobs-arrive (suc l) 1 a (omega arith) pos (omega arith))

pub ceil-sub : (a z x : ℕ) → 0 < a → ceil (z + x) a ≤ ceil z a + ceil x a
ceil-sub a z x pos = jobs-sub 1 a z x pos

pub ceil-longer : (p q x : ℕ) → 0 < q → q ≤ p → ceil x p ≤ ceil x q
ceil-longer p q x pos h = jobs-longer x 1 1 p q pos h (omega arith)

-- A count rounded up is at most the ticks.
pub ceil-le : (a x : ℕ) → 0 < a → ceil x a ≤ x
ceil-le a zero pos = omega (arith, ceil-zero a)
ceil-le a (suc x) pos =
    let l : ceil (suc x) a < suc (suc x) = (div-lt_iff_lt-mul pos).1 (omega (arith, mul-le-mul_left x pos)) in
    omega arith

-- ---- between two deadlines a count stays

-- The first deadline that has not been counted lies above.
pub jobs-above : (t d p : ℕ) → 0 < p → d ≤ p → t < d + jobs t d p * p
jobs-above t d p pos l = omega (arith, lt-div-mul-add {a = t + (p - d)} pos)

-- The count is the same at every tick before it.
pub jobs-until : (t x d p : ℕ) → d ≤ p → t ≤ x → x < d + jobs t d p * p → jobs x d p ≡ jobs t d p
jobs-until t x d p l h m = div-eq_of_lt-le p (omega (arith, jobs-mul-le t d p)) (omega arith)

-- And a tick that is no deadline adds nothing.
pub jobs-next : (l d p : ℕ) → 0 < p → d ≤ p → ((n : ℕ) → suc l ≡ d + n * p → ⊥) → jobs (suc l) d p ≡ jobs l d p
jobs-next l d p pos h none = go (le-or-lt (d + jobs l d p * p) (suc l))
  where
    go : (d + jobs l d p * p ≤ suc l) ⊎ (suc l < d + jobs l d p * p) → jobs (suc l) d p ≡ jobs l d p
    go (inl m) = absurd (none (jobs l d p) (omega (arith, jobs-above l d p pos h)))
    go (inr m) = jobs-until l (suc l) d p h (omega arith) m

-- The quotient rounded up, as the library has it.
pub div_ceil-ceil : (x a : ℕ) → 0 < a → div_ceil x a ≡ ceil x a
div_ceil-ceil x a p =
    let q : ℕ = div_ceil x a in
    let times = div_ceil_times x a p in
    sym (div-eq_of_lt-le {k = q} a (omega (arith, times.1)) (omega (arith, times.0)))
