-- Laws of `taken`: what goes, at most one unit a tick, to work of which a l units have been called for by the end of tick l.
use mathlib.Core.Bool.{Bool, true, false}
use mathlib.Core.Logic.{◌⊎◌, inl, inr}
use mathlib.Core.Path.{◌≡◌, refl}
use native.Mathlib.Nat.{add-zero, add-suc}
use native.Mathlib.Omega.{arith}
use borrow.Author.Tests.{ltb-true, ltb-false}
use lib.Dec.{ltb}
use Prim.Native.Nat.{ℕ, zero, suc, ◌+◌, ◌-◌, ◌≤◌, ◌<◌, min, max}
use Rattle.demand.specs.Demands.{grow, taken}
use Rattle.demand.specs.Tests.{pick}
use Rattle.demand.proofs.Divide.{le-or-lt}

-- The paper's test, as omega reads it.
pub grow-is : (f a : ℕ) → grow f a ≡ min (suc f) (max f a)
unfolding grow
grow-is f a = go (ltb f a) refl
  where
    go : (b : Bool) → ltb f a ≡ b → pick b (f + 1) f ≡ min (suc f) (max f a)
    go true e = omega (arith, ltb-true f a e)
    go false e = omega (arith, ltb-false f a e)

pub taken-zero : (a : ℕ → ℕ) → taken a 0 ≡ 0
unfolding taken
taken-zero a = refl

pub taken_next : (a : ℕ → ℕ) (l : ℕ) → taken a (suc l) ≡ min (suc (taken a l)) (max (taken a l) (a (suc l)))
unfolding taken
taken_next a l = grow-is (taken a l) (a (suc l))

-- Monotone in what is called for; only ticks 1, 2, .. matter.
pub taken_mono : (a b : ℕ → ℕ) → ((l : ℕ) → a (suc l) ≤ b (suc l)) → (l : ℕ) → taken a l ≤ taken b l
taken_mono a b h zero = omega (arith, taken-zero a)
taken_mono a b h (suc l) = omega (arith, taken_mono a b h l, h l, taken_next a l, taken_next b l)

-- At most one unit a tick, and never less than before.
pub taken-le : (a : ℕ → ℕ) (l : ℕ) → taken a l ≤ l
taken-le a zero = omega (arith, taken-zero a)
taken-le a (suc l) = omega (arith, taken-le a l, taken_next a l)

pub taken_step : (a : ℕ → ℕ) (l : ℕ) → taken a (suc l) ≤ suc (taken a l)
taken_step a l = omega (arith, taken_next a l)

pub taken-up : (a : ℕ → ℕ) (l : ℕ) → taken a l ≤ taken a (suc l)
taken-up a l = omega (arith, taken_next a l)

pub taken-gain : (a : ℕ → ℕ) (t j : ℕ) → taken a (t + j) ≤ taken a t + j
taken-gain a t zero = rw (add-zero t) (omega arith)
taken-gain a t (suc j) = rw (add-suc t j) (omega (arith, taken-gain a t j, taken_step a (t + j)))

pub taken-grows : (a : ℕ → ℕ) (t j : ℕ) → taken a t ≤ taken a (t + j)
taken-grows a t zero = rw (add-zero t) (omega arith)
taken-grows a t (suc j) = rw (add-suc t j) (omega (arith, taken-grows a t j, taken-up a (t + j)))

-- Nothing is taken that is not called for.
pub taken-le-called : (a : ℕ → ℕ) → ((l : ℕ) → a l ≤ a (suc l)) → (l : ℕ) → taken a l ≤ a l
taken-le-called a up zero = omega (arith, taken-zero a)
taken-le-called a up (suc l) = omega (arith, taken-le-called a up l, up l, taken_next a l)

-- Called for in sum at most in parts: then taken in sum at most called for in the first part and taken in the second.
pub taken-sub : (a : ℕ → ℕ) (z : ℕ) → taken a z ≤ a z → ((x : ℕ) → a (z + x) ≤ a z + a x) → (x : ℕ) → taken a (z + x) ≤ a z + taken a x
taken-sub a z low sub zero = rw (add-zero z) (omega arith)
taken-sub a z low sub (suc x) =
    let s : a (suc (z + x)) ≤ a z + a (suc x) = rw add-suc at (sub (suc x)) in
    rw add-suc (omega (arith, taken-sub a z low sub x, taken_next a (z + x), taken_next a x))

-- ---- one tick later

-- With no more called for: no more is taken.
pub taken-shift : (a b : ℕ → ℕ) → ((l : ℕ) → a (suc l) ≤ b (suc (suc l))) → (l : ℕ) → taken a l ≤ taken b (suc l)
taken-shift a b h zero = omega (arith, taken-zero a)
taken-shift a b h (suc l) = omega (arith, taken-shift a b h l, h l, taken_next a l, taken_next b (suc l))

-- With one unit less called for: one unit less is taken.
pub taken-shift-suc : (a b : ℕ → ℕ) → ((l : ℕ) → suc (a l) ≤ b (suc l)) → (l : ℕ) → suc (taken a l) ≤ taken b (suc l)
taken-shift-suc a b h zero = omega (arith, h 0, taken-zero a, taken-zero b, taken_next b 0)
taken-shift-suc a b h (suc l) = omega (arith, taken-shift-suc a b h l, h (suc l), taken_next a l, taken_next b (suc l))

-- With at most one unit less called for: at most one unit less is taken.
pub taken-drop : (a b : ℕ → ℕ) → ((l : ℕ) → b (suc (suc l)) ≤ suc (a (suc l))) → (l : ℕ) → taken b (suc l) ≤ suc (taken a l)
taken-drop a b h zero = omega (arith, taken-zero a, taken-zero b, taken_next b 0)
taken-drop a b h (suc l) = omega (arith, taken-drop a b h l, h l, taken_next a l, taken_next b (suc l))

-- With no less called for, and nothing in that tick: no less is taken.
pub taken-wait : (a b : ℕ → ℕ) → b 1 ≡ 0 → ((l : ℕ) → b (suc (suc l)) ≤ a (suc l)) → (l : ℕ) → taken b (suc l) ≤ taken a l
taken-wait a b none h zero = omega (arith, taken-zero a, taken-zero b, taken_next b 0)
taken-wait a b none h (suc l) = omega (arith, taken-wait a b none h l, h l, taken_next a l, taken_next b (suc l))

-- ---- many ticks at once

-- Where w is called for at each of j ticks.
pub taken-jump : (a : ℕ → ℕ) (t w j : ℕ) → ((l : ℕ) → l < j → a (t + suc l) ≡ w) → taken a (t + j) ≡ min (taken a t + j) (max (taken a t) w)
taken-jump a t w zero h = rw (add-zero t) (omega arith)
taken-jump a t w (suc j) h =
    let e : a (suc (t + j)) ≡ w = rw add-suc at (h j (omega arith)) in
    rw (add-suc t j) (omega (arith, taken-jump a t w j (λ l m. h l (omega arith)), taken_next a (t + j)))

-- ---- the closed form: the least, over all s up to l, of what is called for by s and the ticks behind s

pub taken-at-most : (a : ℕ → ℕ) → ((l : ℕ) → a l ≤ a (suc l)) → (s j : ℕ) → taken a (s + j) ≤ a s + j
taken-at-most a up s j = omega (arith, taken-gain a s j, taken-le-called a up s)

-- The s at which it is that.
pub record Attained (a : ℕ → ℕ) (l : ℕ) : Type 0 where
  pub start : ℕ
  pub within : start ≤ l
  pub exact : taken a l ≡ a start + (l - start)

pub taken-attained : (a : ℕ → ℕ) → a 0 ≡ 0 → ((l : ℕ) → a l ≤ a (suc l)) → (l : ℕ) → Attained a l
taken-attained a none up zero = record { start = 0; within = omega arith; exact = omega (arith, taken-zero a) }
taken-attained a none up (suc l) = go (le-or-lt (a (suc l)) (taken a l)) (taken-attained a none up l)
  where
    go : (a (suc l) ≤ taken a l) ⊎ (taken a l < a (suc l)) → Attained a l → Attained a (suc l)
    go (inl h) was = record {
      start = suc l;
      within = omega arith;
      exact = omega (arith, taken-le-called a up l, up l, taken_next a l);
    }
    go (inr h) was = record {
      start = was.start;
      within = omega (arith, was.within);
      exact = omega (arith, was.exact, was.within, taken_next a l);
    }
