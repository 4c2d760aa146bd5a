-- Parts of a run's lists, place by place.
use mathlib.Core.List.{List, ◌++◌}
use mathlib.Core.Path.{◌≡◌, ap, ◌∙◌}
use native.Mathlib.Omega.{arith}
use Prim.Native.Nat.{ℕ, ◌+◌, ◌≤◌, ◌<◌}
use lib.ListN.{length, get_or, set, take, drop, length-drop}
use lib.Seq.{length-take-le, get_or-take, get_or-drop, drop-set-add, take-set-lt, take-set-le, drop-set-lt, take_at, drop_at, take_all}
use Rattle.guarantees.specs.View.{part}

module _ (a n : ℕ) (xs : List ℕ) where
  pub part_length : a + n ≤ length xs → length (part a n xs) ≡ n
  unfolding part
  part_length long = length-take-le n (drop a xs) (omega (arith, length-drop a xs))

  pub part_at : (i : ℕ) → i < n → get_or (part a n xs) i 0 ≡ get_or xs (a + i) 0
  unfolding part
  part_at i l = get_or-take n (drop a xs) i 0 l ∙ get_or-drop a xs i 0

  -- A number set in the part, ..
  pub part-set : (i v : ℕ) → i < n → part a n (set xs (a + i) v) ≡ set (part a n xs) i v
  unfolding part
  part-set i v l = ap (take n) (drop-set-add a xs i v) ∙ take-set-lt n (drop a xs) i v l

  -- .. and one set before it.
  pub part-after : (i v : ℕ) → i < a → part a n (set xs i v) ≡ part a n xs
  unfolding part
  part-after i v l = ap (take n) (drop-set-lt a xs i v l)

-- The part at the front: by place, with a number set in it, and with one set behind it.
module _ (n : ℕ) (xs : List ℕ) where
  pub front_at : (i : ℕ) → i < n → get_or (part 0 n xs) i 0 ≡ get_or xs i 0
  unfolding part
  front_at i l = get_or-take n xs i 0 l

  pub front-set : (i v : ℕ) → i < n → part 0 n (set xs i v) ≡ set (part 0 n xs) i v
  unfolding part
  front-set i v l = take-set-lt n xs i v l

  pub front-before : (i v : ℕ) → n ≤ i → part 0 n (set xs i v) ≡ part 0 n xs
  unfolding part
  front-before i v l = take-set-le n xs i v l

-- Two lists one behind the other: each is a part.
module _ (xs ys : List ℕ) (n : ℕ) (e : length xs ≡ n) where
  pub front_of : part 0 n (xs ++ ys) ≡ xs
  unfolding part
  front_of = take_at xs ys n e

  pub back-of : (m : ℕ) → length ys ≡ m → part n m (xs ++ ys) ≡ ys
  unfolding part
  back-of m f = ap (take m) (drop_at xs ys n e) ∙ take_all m ys (omega arith)
