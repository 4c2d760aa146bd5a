-- Laws of A, f and D for the crates above, so that nobody opens a definition.
use mathlib.Core.List.{List, [], ◌∷◌}
use mathlib.Core.Logic.{◌⊎◌, inl, inr}
use mathlib.Core.Path.{◌≡◌, refl, ap, ◌∙◌}
use native.Mathlib.Nat.{mul-zero, mul-le-mul_left, mul-add, eq-or-lt_of_le}
use native.Mathlib.Omega.{arith}
use borrow.Author.Tests.{lt-ltb}
use Prim.Native.Nat.{ℕ, suc, ◌+◌, ◌-◌, ◌*◌, ◌≤◌, ◌<◌, min, max}
use Rattle.demand.specs.Demands.{ceil, called_by, due_by, called, taken, handled, due, Passes, Fails}
use Rattle.demand.specs.Rows.{Row, total, Positive, Sound, Valid}
use Rattle.demand.proofs.Divide.{jobs, jobs-sub, within-jobs, within-le, ceil-mono, ceil-zero, ceil-sub, le-or-lt}
use Rattle.demand.proofs.Sums.{each_map, each_row, total-le, total-sub, total-zero}
use Rattle.demand.proofs.Taken.{taken-zero, taken_next, taken-le, taken-gain, taken-grows, taken-le-called, taken-sub, taken-at-most, taken-attained, Attained}

-- ---- row by row

pub called-nil : (l : ℕ) → called [] l ≡ 0
unfolding called total
called-nil l = refl

pub called-cons : (h : Row) (hs : List Row) (l : ℕ) → called (h ∷ hs) l ≡ h.cost * ceil l h.period + called hs l
unfolding called total
called-cons h hs l = refl

pub due-nil : (l : ℕ) → due [] l ≡ 0
unfolding due total
due-nil l = refl

-- One task's share, where its deadline is from 1 to its period.
due-by : (l : ℕ) (r : Row) → Sound r → due_by l r ≡ r.cost * jobs l r.deadline r.period
due-by l r s = ap (λ (n : ℕ). r.cost * n) (within-jobs l r.deadline r.period (omega (arith, s)) s.fits)

pub due-cons : (t : Row) (ts : List Row) (l : ℕ) → Sound t → due (t ∷ ts) l ≡ t.cost * jobs l t.deadline t.period + due ts l
unfolding due total
due-cons t ts l s = rw (due-by l t s)

-- ---- A: the work called for

pub called-zero : (hs : List Row) → called hs 0 ≡ 0
unfolding called
called-zero hs = total-zero (called_by 0) hs (each_row (λ r. ap (λ (n : ℕ). r.cost * n) (ceil-zero r.period) ∙ mul-zero r.cost) hs)

pub called-mono : (hs : List Row) {x y : ℕ} → x ≤ y → called hs x ≤ called hs y
unfolding called
called-mono hs {x} {y} h = total-le (called_by x) (called_by y) hs (each_row (λ r. mul-le-mul_left r.cost (ceil-mono r.period h)) hs)

pub called-sub : (hs : List Row) → Positive hs → (z x : ℕ) → called hs (z + x) ≤ called hs z + called hs x
unfolding called
called-sub hs pos z x = total-sub (called_by (z + x)) (called_by z) (called_by x) hs (each_map row hs pos)
  where
    row : (r : Row) → 0 < r.period → called_by (z + x) r ≤ called_by z r + called_by x r
    row r p = omega (arith, mul-le-mul_left r.cost (ceil-sub r.period z x p), mul-add r.cost (ceil z r.period) (ceil x r.period))

-- ---- f: the ticks that handlers take

pub handled-zero : (hs : List Row) → handled hs 0 ≡ 0
unfolding handled
handled-zero hs = taken-zero (called hs)

pub handled-taken : (hs : List Row) (l : ℕ) → handled hs l ≡ taken (called hs) l
unfolding handled
handled-taken hs l = refl

pub handled-next : (hs : List Row) (l : ℕ) → handled hs (suc l) ≡ min (suc (handled hs l)) (max (handled hs l) (called hs (suc l)))
unfolding handled
handled-next hs l = taken_next (called hs) l

-- At most one a tick.
pub handled-step : (hs : List Row) (l : ℕ) → handled hs (suc l) ≤ suc (handled hs l)
handled-step hs l = omega (arith, handled-next hs l)

pub handled-gain : (hs : List Row) (l k : ℕ) → handled hs (l + k) ≤ handled hs l + k
unfolding handled
handled-gain hs l k = taken-gain (called hs) l k

pub handled-mono : (hs : List Row) {x y : ℕ} → x ≤ y → handled hs x ≤ handled hs y
unfolding handled
handled-mono hs {x} {y} h =
    let e : x + (y - x) ≡ y = omega arith in
    omega (arith, taken-grows (called hs) x (y - x), ap (taken (called hs)) e)

pub handled-le : (hs : List Row) (l : ℕ) → handled hs l ≤ l
unfolding handled
handled-le hs l = taken-le (called hs) l

pub handled-le-called : (hs : List Row) (l : ℕ) → handled hs l ≤ called hs l
unfolding handled
handled-le-called hs l = taken-le-called (called hs) (λ m. called-mono hs (omega arith)) l

-- In sum at most in parts.
pub handled-sub : (hs : List Row) → Positive hs → (z x : ℕ) → handled hs (z + x) ≤ called hs z + handled hs x
unfolding handled
handled-sub hs pos z x = taken-sub (called hs) z (unfold handled in handled-le-called hs z) (called-sub hs pos z) x

-- The closed form: at most A(s) + L - s for every s up to L, and that at some s.
pub handled-at-most : (hs : List Row) (s l : ℕ) → s ≤ l → handled hs l ≤ called hs s + (l - s)
unfolding handled
handled-at-most hs s l h =
    let e : s + (l - s) ≡ l = omega arith in
    omega (arith, taken-at-most (called hs) (λ m. called-mono hs (omega arith)) s (l - s), ap (taken (called hs)) e)

pub handled-attained : (hs : List Row) (l : ℕ) → Attained (called hs) l
handled-attained hs l = taken-attained (called hs) (called-zero hs) (λ m. called-mono hs (omega arith)) l

-- ---- D: the work of tasks that is due

pub due-zero : (ts : List Row) → Valid ts → due ts 0 ≡ 0
unfolding due
due-zero ts v = total-zero (due_by 0) ts (each_map (λ r s. rw (lt-ltb 0 r.deadline s.some) (mul-zero r.cost)) ts v)

pub due-mono : (ts : List Row) → Positive ts → {x y : ℕ} → x ≤ y → due ts x ≤ due ts y
unfolding due
due-mono ts pos {x} {y} h = total-le (due_by x) (due_by y) ts (each_map row ts pos)
  where
    row : (r : Row) → 0 < r.period → due_by x r ≤ due_by y r
    row r p = mul-le-mul_left r.cost (within-le x y r.deadline r.deadline r.period r.period p h (omega arith) (omega arith))

-- In sum at most in parts, the first rounded up.
pub due-sub : (ts : List Row) → Valid ts → (z x : ℕ) → due ts (z + x) ≤ called ts z + due ts x
unfolding due called
due-sub ts valid z x = total-sub (due_by (z + x)) (called_by z) (due_by x) ts (each_map row ts valid)
  where
    row : (r : Row) → Sound r → due_by (z + x) r ≤ called_by z r + due_by x r
    row r s =
        omega (
          arith,
          due-by (z + x) r s,
          due-by x r s,
          mul-le-mul_left r.cost (jobs-sub r.deadline r.period z x (omega (arith, s))),
          mul-add r.cost (ceil z r.period) (jobs x r.deadline r.period),
        )

-- ---- lengths that pass

pub passes-zero : (ts hs : List Row) → Valid ts → Passes ts hs 0
passes-zero ts hs v = omega (arith, due-zero ts v, handled-zero hs)

pub passes-or-fails : (ts hs : List Row) (l : ℕ) → Passes ts hs l ⊎ Fails ts hs l
passes-or-fails ts hs l = le-or-lt (handled hs l + due ts l) l

-- A search that goes up from 0.
pub passes-next : (ts hs : List Row) (n : ℕ) → ((l : ℕ) → 0 < l → l < n → Passes ts hs l) → Passes ts hs n → (l : ℕ) → 0 < l → l < suc n → Passes ts hs l
passes-next ts hs n below here l pos h = go (eq-or-lt_of_le {n = l} {m = n} (omega arith))
  where
    go : (l ≡ n) ⊎ (l < n) → Passes ts hs l
    go (inl e) = rw e here
    go (inr m) = below l pos m
