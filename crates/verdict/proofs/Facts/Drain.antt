-- A drain point: a length with room for all the work that is called for within it, due or not. Nothing of it is left behind, so lengths up to there decide.
--   Drains ts hs z   z is a drain point
use mathlib.Core.List.{List}
use mathlib.Core.Logic.{◌⊎◌, inl, inr}
use mathlib.Core.Path.{◌≡◌}
use native.Mathlib.Omega.{arith}
use Prim.Native.Nat.{ℕ, zero, suc, ◌+◌, ◌-◌, ◌≤◌, ◌<◌}
use Rattle.demand.specs.Demands.{called, Passes}
use Rattle.demand.specs.Rows.{Row, Positive, Valid}
use Rattle.demand.proofs.Demands.{handled-sub, due-sub, passes-zero}
use Rattle.demand.proofs.Divide.{le-or-lt}
use Rattle.verdict.specs.Facts.{PassesTo}

-- Induction from all smaller numbers.
pub from-below : (P : ℕ → Type 0) → ((n : ℕ) → ((m : ℕ) → m < n → P m) → P n) → (n : ℕ) → P n
from-below P step n = go (suc n) n (omega arith)
  where
    go : (fuel n : ℕ) → n < fuel → P n
    go zero n h = absurd (omega arith)
    go (suc fuel) n h = step n (λ m l. go fuel m (omega arith))

pub record Drains (ts hs : List Row) (z : ℕ) : Type 0 where
  pub positive : 0 < z
  pub room : called hs z + called ts z ≤ z

-- Past a drain point a length is that point and a shorter length.
drain-past : (ts hs : List Row) (z x : ℕ) → Valid ts → Positive hs → Drains ts hs z → Passes ts hs x → Passes ts hs (z + x)
drain-past ts hs z x pt ph d passes = omega (arith, handled-sub hs ph z x, due-sub ts pt z x, d.room)

pub drain-ends : (ts hs : List Row) (z : ℕ) → Valid ts → Positive hs → Drains ts hs z → PassesTo ts hs z → (l : ℕ) → Passes ts hs l
drain-ends ts hs z valid ph d passes = from-below (λ l. Passes ts hs l) (λ l below. go l below (le-or-lt l z))
  where
    go : (l : ℕ) → ((m : ℕ) → m < l → Passes ts hs m) → (l ≤ z) ⊎ (z < l) → Passes ts hs l
    go zero below s = passes-zero ts hs valid
    go (suc l) below (inl s) = passes (suc l) (omega arith) s
    go (suc l) below (inr s) =
        let x : ℕ = suc l - z in
        let e : suc l ≡ z + x = omega arith in
        rw e (drain-past ts hs z x valid ph d (below x (omega (arith, d.positive))))
