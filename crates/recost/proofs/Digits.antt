-- A number that is no greater has no more digits.
use mathlib.Core.List.{[], ◌∷◌}
use mathlib.Core.Logic.{◌⊎◌, inl, inr}
use mathlib.Core.Path.{◌≡◌, ap, ◌∙◌}
use native.Mathlib.Omega.{arith}
use Prim.Native.Nat.{ℕ, zero, suc, ◌+◌, ◌/◌, ◌%◌, ◌≤◌, ◌<◌}
use lib.ListN.{length, length-append}
use Rattle.demand.proofs.Divide.{le-or-lt}
use Rattle.text.specs.Numbers.{last_digits, decimal}
use Rattle.text.proofs.Numbers.{few, many}

digits-mono : (k m n : ℕ) → m ≤ n → length (last_digits k m) ≤ length (last_digits k n)
digits-mono zero m n h = omega arith
digits-mono (suc k) m n h = go (le-or-lt 10 m) (le-or-lt 10 n) (digits-mono k (m / 10) (n / 10) (omega arith))
  where
    one : (x : ℕ) → x < 10 → length (last_digits (suc k) x) ≡ 1
    one x l = ap length (few k x l)

    more : (x : ℕ) → 10 ≤ x → length (last_digits (suc k) x) ≡ length (last_digits k (x / 10)) + 1
    more x g = ap length (many k x g) ∙ length-append (last_digits k (x / 10)) ((48 + x % 10) ∷ [])

    go : (10 ≤ m) ⊎ (m < 10) → (10 ≤ n) ⊎ (n < 10) → length (last_digits k (m / 10)) ≤ length (last_digits k (n / 10))
        → length (last_digits (suc k) m) ≤ length (last_digits (suc k) n)
    go (inl a) (inl b) rest = omega (arith, more m a, more n b)
    go (inl a) (inr b) rest = absurd (omega arith)
    go (inr a) (inl b) rest = omega (arith, one m a, more n b)
    go (inr a) (inr b) rest = omega (arith, one m a, one n b)

pub decimal-mono : (m n : ℕ) → m ≤ n → length (decimal m) ≤ length (decimal n)
unfolding decimal
decimal-mono m n h = digits-mono 20 m n h
