-- Laws of a total over rows, each once for every figure that is summed.
use mathlib.Core.List.{List, [], ◌∷◌}
use mathlib.Core.Path.{◌≡◌, refl}
use native.Mathlib.Omega.{arith}
use Prim.Native.Nat.{ℕ, ◌+◌, ◌*◌, ◌≤◌}
use lib.ListN.{length}
use Rattle.demand.specs.Rows.{Row, total, Each, Positive, Valid}

pub each_map : {P Q : Row → Type 0} → ((r : Row) → P r → Q r) → (rs : List Row) → Each P rs → Each Q rs
each_map f [] e = tt
each_map f (r ∷ rs) e = (f r e.0, each_map f rs e.1)

pub each_both : {P Q R : Row → Type 0} → ((r : Row) → P r → Q r → R r) → (rs : List Row) → Each P rs → Each Q rs → Each R rs
each_both f [] p q = tt
each_both f (r ∷ rs) p q = (f r p.0 q.0, each_both f rs p.1 q.1)

pub each_row : {Q : Row → Type 0} → ((r : Row) → Q r) → (rs : List Row) → Each Q rs
each_row f [] = tt
each_row f (r ∷ rs) = (f r, each_row f rs)

pub valid-positive : (ts : List Row) → Valid ts → Positive ts
valid-positive ts v = each_map (λ r s. omega (arith, s.some, s.fits)) ts v

pub total-nil : (g : Row → ℕ) → total g [] ≡ 0
unfolding total
total-nil g = refl

pub total-cons : (g : Row → ℕ) (r : Row) (rs : List Row) → total g (r ∷ rs) ≡ g r + total g rs
unfolding total
total-cons g r rs = refl

-- No more of each row: no more in all.
pub total-le : (g k : Row → ℕ) (rs : List Row) → Each (λ r. g r ≤ k r) rs → total g rs ≤ total k rs
unfolding total
total-le g k [] e = omega arith
total-le g k (r ∷ rs) e = omega (arith, e.0, total-le g k rs e.1)

pub total-same : (g k : Row → ℕ) (rs : List Row) → Each (λ r. g r ≡ k r) rs → total g rs ≡ total k rs
unfolding total
total-same g k [] e = refl
total-same g k (r ∷ rs) e = omega (arith, e.0, total-same g k rs e.1)

-- A row's figure in two parts: the total in two parts.
pub total-sum : (g k : Row → ℕ) (rs : List Row) → total (λ r. g r + k r) rs ≡ total g rs + total k rs
unfolding total
total-sum g k [] = refl
total-sum g k (r ∷ rs) = omega (arith, total-sum g k rs)

pub total-sub : (g k m : Row → ℕ) (rs : List Row) → Each (λ r. g r ≤ k r + m r) rs → total g rs ≤ total k rs + total m rs
total-sub g k m rs e = omega (arith, total-le g (λ r. k r + m r) rs e, total-sum k m rs)

-- Nothing of each row: nothing in all.
pub total-zero : (g : Row → ℕ) (rs : List Row) → Each (λ r. g r ≡ 0) rs → total g rs ≡ 0
unfolding total
total-zero g [] e = refl
total-zero g (r ∷ rs) e = omega (arith, e.0, total-zero g rs e.1)

-- At most n of each row: at most n times their number.
pub total-most : (n : ℕ) (g : Row → ℕ) (rs : List Row) → Each (λ r. g r ≤ n) rs → total g rs ≤ length rs * n
unfolding total
total-most n g [] e = omega arith
total-most n g (r ∷ rs) e = omega (arith, e.0, total-most n g rs e.1)
