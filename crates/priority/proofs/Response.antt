-- The response of a task: it meets where it is not 0 and nothing shorter does, and none does where it is 0.
--   Least a n l       l has room for a l, is at most n, and nothing shorter has room
--   Told a n l        l is the least up to n, or 0 and there is none
--   below_one, below-climbs   no length below 1 has room; where l has no room, no length below a l has
--   below-least, below_none   where l has room it is the least; where it is above n there is none up to n
use mathlib.Core.Bool.{Bool, true, false}
use mathlib.Core.List.{List}
use mathlib.Core.Logic.{◌⊎◌, inl, inr}
use mathlib.Core.Path.{◌≡◌, refl}
use native.Mathlib.Nat.{eq-or-lt_of_le}
use native.Mathlib.Omega.{arith}
use borrow.Author.Tests.{ltb-true, ltb-false}
use Prim.Native.Nat.{ℕ, zero, suc, ◌≤◌, ◌<◌}
use lib.Dec.{ltb}
use Rattle.demand.specs.Rows.{Row, row_at}
use Rattle.demand.specs.Tests.{pick}
use Rattle.demand.proofs.Divide.{le-or-lt}
use Rattle.priority.specs.Asked.{asked}
use Rattle.priority.specs.Inside.Climb.{Below}
use Rattle.priority.specs.Responses.{or_else, least_to, response, Meets, IsNone, ResponseTells}

-- ---- the least length

pub record Least (a : ℕ → ℕ) (n l : ℕ) : Type 0 where
  pub within : l ≤ n
  pub room : a l ≤ l
  pub shorter : (m : ℕ) → 0 < m → m < l → m < a m

pub record Told (a : ℕ → ℕ) (n l : ℕ) : Type 0 where
  pub least : 0 < l → Least a n l
  pub none : l ≡ 0 → (m : ℕ) → 0 < m → m ≤ n → m < a m

pub least-told : (a : ℕ → ℕ) (n : ℕ) → Told a n (least_to a n)
unfolding least_to
least-told a zero = record { least = λ h. absurd (omega arith); none = λ e m from upto. absurd (omega arith) }
least-told a (suc n) = go (least_to a n) (least-told a n)
  where
    go : (x : ℕ) → Told a n x → Told a (suc n) (or_else x (pick (ltb (suc n) (a (suc n))) 0 (suc n)))
    go (suc x) f =
        let l : Least a n (suc x) = f.least (omega arith) in
        record {
          least = λ h. record { within = omega (arith, l.within); room = l.room; shorter = l.shorter };
          none = λ e m from upto. absurd (omega arith);
        }
    go zero f = test (ltb (suc n) (a (suc n))) refl
      where
        test : (b : Bool) → ltb (suc n) (a (suc n)) ≡ b → Told a (suc n) (pick b 0 (suc n))
        test true e = record { least = λ h. absurd (omega arith); none = λ z m from upto. last m from (eq-or-lt_of_le upto) }
          where
            last : (m : ℕ) → 0 < m → (m ≡ suc n) ⊎ (m < suc n) → m < a m
            last m from (inl same) = rw same (ltb-true (suc n) (a (suc n)) e)
            last m from (inr short) = f.none refl m from (omega arith)
        test false e =
            let here : Least a (suc n) (suc n) =
            record { within = omega arith; room = ltb-false (suc n) (a (suc n)) e; shorter = λ m from short. f.none refl m from (omega arith) } in
            record { least = λ h. here; none = λ z m from upto. absurd (omega arith) }

-- ---- responses

module _ (ts hs : List Row) (i : ℕ) where
  told : Told (asked ts hs i) (row_at ts i).deadline (response ts hs i)
  unfolding response
  told = least-told (asked ts hs i) (row_at ts i).deadline

  -- A response meets.
  pub response-meets : 0 < response ts hs i → Meets ts hs i (response ts hs i)
  response-meets some = record { from_one = some; in-time = (told.least some).within; room = (told.least some).room }

  -- Without one, every length up to the deadline is asked for more than it has.
  pub response-none : response ts hs i ≡ 0 → (l : ℕ) → 0 < l → l ≤ (row_at ts i).deadline → l < asked ts hs i l
  response-none none l from upto = told.none none l from upto

  none-meets : response ts hs i ≡ 0 → IsNone ts hs i
  none-meets none m meets = omega (arith, meets.room, response-none none m meets.from_one meets.in-time)

  -- A response is no longer than any length that meets.
  response-least : 0 < response ts hs i → (m : ℕ) → Meets ts hs i m → response ts hs i ≤ m
  response-least some m meets = go (le-or-lt (response ts hs i) m)
    where
      go : (response ts hs i ≤ m) ⊎ (m < response ts hs i) → response ts hs i ≤ m
      go (inl h) = h
      go (inr h) = absurd (omega (arith, meets.room, (told.least some).shorter m meets.from_one h))

-- So it is the least, or there is none.
pub response-tells : ResponseTells
response-tells ts hs i =
    record {
      some = λ h. record { meets = response-meets ts hs i h; least = response-least ts hs i h };
      none = none-meets ts hs i;
    }

-- ---- from below

pub below_one : (a : ℕ → ℕ) → Below a 1
below_one a m from short = absurd (omega arith)

pub below-climbs : (a : ℕ → ℕ) → ((x y : ℕ) → x ≤ y → a x ≤ a y) → (l : ℕ) → Below a l → Below a (a l)
below-climbs a mono l below m from short = go (le-or-lt l m)
  where
    go : (l ≤ m) ⊎ (m < l) → m < a m
    go (inl h) = omega (arith, mono l m h)
    go (inr h) = below m from h

pub below-least : (a : ℕ → ℕ) (n l : ℕ) → Below a l → 0 < l → l ≤ n → a l ≤ l → least_to a n ≡ l
below-least a n l below from upto room = go (least_to a n) (least-told a n) (le-or-lt (least_to a n) l) (le-or-lt l (least_to a n))
  where
    go : (x : ℕ) → Told a n x → (x ≤ l) ⊎ (l < x) → (l ≤ x) ⊎ (x < l) → x ≡ l
    go zero f p q = absurd (omega (arith, f.none refl l from upto))
    go (suc x) f (inl p) (inl q) = omega arith
    go (suc x) f (inl p) (inr q) = absurd (omega (arith, below (suc x) (omega arith) q, (f.least (omega arith)).room))
    go (suc x) f (inr p) q = absurd (omega (arith, (f.least (omega arith)).shorter l from p))

pub below_none : (a : ℕ → ℕ) (n l : ℕ) → Below a l → n < l → least_to a n ≡ 0
below_none a n l below past = go (least_to a n) (least-told a n)
  where
    go : (x : ℕ) → Told a n x → x ≡ 0
    go zero f = refl
    go (suc x) f =
        let h : Least a n (suc x) = f.least (omega arith) in
        absurd (omega (arith, h.room, below (suc x) (omega arith) (omega (arith, h.within))))
