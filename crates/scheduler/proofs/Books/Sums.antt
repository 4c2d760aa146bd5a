-- Sums of numbers held by place.
use mathlib.Core.List.{List, [], ◌∷◌}
use mathlib.Core.Path.{◌≡◌, refl}
use native.Mathlib.Nat.{not-suc-le-zero}
use native.Mathlib.Omega.{arith}
use Prim.Native.Nat.{ℕ, zero, suc, ◌+◌, ◌-◌, ◌≤◌, ◌<◌}
use lib.ListN.{length, get_or, set, take}
use lib.Seq.{length-take-le, get_or-take, take-set-lt}
use Rattle.scheduler.specs.Books.{sum}
use Rattle.scheduler.specs.Tick.{less}

sum-set : (xs : List ℕ) (k v : ℕ) → k < length xs → sum (set xs k v) + get_or xs k 0 ≡ sum xs + v
unfolding sum
sum-set [] k v l = absurd (not-suc-le-zero l)
sum-set (x ∷ xs) zero v l = omega arith
sum-set (x ∷ xs) (suc k) v l = omega (arith, sum-set xs k v (omega arith))

-- Place by place the sum of two: in all too.
pub sum-add : (xs ys zs : List ℕ) → length xs ≡ length ys → length zs ≡ length ys → ((j : ℕ) → j < length ys → get_or zs j 0 ≡ get_or xs j 0 + get_or ys j 0)
    → sum zs ≡ sum xs + sum ys
unfolding sum
sum-add [] [] [] e f h = refl
sum-add [] [] (z ∷ zs) e f h = absurd (omega arith)
sum-add [] (y ∷ ys) zs e f h = absurd (omega arith)
sum-add (x ∷ xs) [] zs e f h = absurd (omega arith)
sum-add (x ∷ xs) (y ∷ ys) [] e f h = absurd (omega arith)
sum-add (x ∷ xs) (y ∷ ys) (z ∷ zs) e f h =
    omega (arith, h 0 (omega arith), sum-add xs ys zs (omega arith) (omega arith) (λ j l. h (suc j) (omega arith)))

pub sum-zero : (xs : List ℕ) → ((j : ℕ) → j < length xs → get_or xs j 0 ≡ 0) → sum xs ≡ 0
unfolding sum
sum-zero [] h = refl
sum-zero (x ∷ xs) h = omega (arith, h 0 (omega arith), sum-zero xs (λ j l. h (suc j) (omega arith)))

-- One place has a unit less.
pub sum_less : (n : ℕ) (xs : List ℕ) (k : ℕ) → k < n → n ≤ length xs → 0 < get_or xs k 0 → sum (take n (less xs k)) + 1 ≡ sum (take n xs)
sum_less n xs k l m work =
    rw (take-set-lt n xs k (get_or xs k 0 - 1) l)
    (omega (arith, sum-set (take n xs) k (get_or xs k 0 - 1) (omega (arith, length-take-le n xs m)), get_or-take n xs k 0 l))
