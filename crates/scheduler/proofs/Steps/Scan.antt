-- Laws of scans over places, in the form in which a loop makes its turns.
use mathlib.Core.Bool.{Bool, true, false, ◌||◌, false≢true}
use mathlib.Core.List.{List}
use mathlib.Core.Logic.{⊎_elim}
use mathlib.Core.Path.{◌≡◌, refl, sym, ap, ◌∙◌}
use native.Mathlib.Nat.{add-zero, add-suc, eq-or-lt_of_le, le_of_suc-le-suc, not-suc-le-zero}
use native.Mathlib.Numerals.{add-one}
use native.Mathlib.Omega.{arith}
use Prim.Native.Nat.{ℕ, zero, suc, ◌+◌, ◌≤◌, ◌<◌}
use lib.ListN.{length, get_or, set, drop, length-set}
use lib.Seq.{drop-set-lt, get_or-set_same, get_or-set_other}
use Rattle.demand.specs.Tests.{pick}
use Rattle.scheduler.specs.Scans.{any, first_of, filled}

-- What an invariant says at the end of a loop.
pub at-end : {A : Type 0} (f : ℕ → A) (i n : ℕ) {x : A} → i ≤ n → n ≤ i → x ≡ f i → x ≡ f n
at-end f i n a b h = h ∙ ap f (let e : i ≡ n = omega arith in e)

-- ---- tests

pub neither : (a b : Bool) → (a || b) ≡ false → (a ≡ false) × (b ≡ false)
neither true b e = absurd (false≢true (sym e))
neither false b e = (refl, e)

pub or-false : (b : Bool) → b ≡ (b || false)
or-false true = refl
or-false false = refl

or-last : (a b c : Bool) → ((a || b) || c) ≡ (a || (b || c))
or-last true b c = refl
or-last false b c = refl

-- Two tests that fail together are the same.
pub same_test : (a b : Bool) → (a ≡ false → b ≡ false) → (b ≡ false → a ≡ false) → a ≡ b
same_test true true f g = refl
same_test true false f g = g refl
same_test false true f g = sym (f refl)
same_test false false f g = refl

-- ---- any

module _ (p : ℕ → Bool) where
  pub any-zero : any p 0 ≡ false
  unfolding any
  any-zero = refl

  pub any_next : (i : ℕ) → any p (i + 1) ≡ (any p i || p i)
  unfolding any
  any_next i = rw add-one

  -- A turn: what was found so far, and the test at i.
  pub any-turn : (i : ℕ) (bad b : Bool) → bad ≡ any p i → b ≡ p i → (bad || b) ≡ any p (i + 1)
  any-turn i bad b e f = rw (e, f) (sym (any_next i))

  pub any-skip : (i : ℕ) → any p i ≡ false → p i ≡ false → any p (i + 1) ≡ false
  any-skip i e f = any_next i ∙ rw (e, f)

  pub any_at : (n k : ℕ) → any p n ≡ false → k < n → p k ≡ false
  unfolding any
  any_at zero k h l = absurd (not-suc-le-zero l)
  any_at (suc n) k h l =
      let parts = neither (any p n) (p n) h in
      ⊎_elim (λ e. ap p e ∙ parts.1) (λ m. any_at n k parts.0 m) (eq-or-lt_of_le (le_of_suc-le-suc l))

  pub any_false : (n : ℕ) → ((k : ℕ) → k < n → p k ≡ false) → any p n ≡ false
  unfolding any
  any_false zero h = refl
  any_false (suc n) h = rw (any_false n (λ k l. h k (omega arith)), h n (omega arith))

-- Tests that agree on every place agree on all.
pub any_same : (p q : ℕ → Bool) (n : ℕ) → ((k : ℕ) → k < n → p k ≡ q k) → any p n ≡ any q n
unfolding any
any_same p q zero h = refl
any_same p q (suc n) h = rw (any_same p q n (λ k l. h k (omega arith)), h n (omega arith))

-- Of the first n places, or of the m behind them.
pub any-split : (p : ℕ → Bool) (n m : ℕ) → any p (n + m) ≡ (any p n || any (λ i. p (n + i)) m)
unfolding any
any-split p n zero = rw add-zero (or-false (any p n))
any-split p n (suc m) = rw (add-suc, any-split p n m) (or-last (any p n) (any (λ i. p (n + i)) m) (p (n + m)))

-- ---- first_of

module _ {A : Type 0} (p : ℕ → Bool) (here : ℕ → A) where
  pub first-none : (n : ℕ) (none : A) → any p n ≡ false → first_of p here n none ≡ none
  unfolding any first_of
  first-none zero none h = refl
  first-none (suc n) none h = let parts = neither (any p n) (p n) h in rw (parts.1, first-none n none parts.0)

  pub first-here : (i n : ℕ) (none : A) → any p i ≡ false → p i ≡ true → i < n → first_of p here n none ≡ here i
  unfolding first_of
  first-here i zero none h q l = absurd (not-suc-le-zero l)
  first-here i (suc n) none h q l =
      ⊎_elim (λ e. rw (← e, q) (first-none i (here i) h)) (λ m. first-here i n (pick (p n) (here n) none) h q m) (eq-or-lt_of_le (le_of_suc-le-suc l))

-- Where a test first holds below n, if anywhere.
pub data Found (p : ℕ → Bool) (n : ℕ) : Type 0 where
  nowhere : any p n ≡ false → Found p n
  first : (i : ℕ) → i < n → p i ≡ true → any p i ≡ false → Found p n

pub find : (p : ℕ → Bool) (n : ℕ) → Found p n
unfolding any
find p zero = nowhere refl
find p (suc n) = go (find p n) (p n) refl
  where
    go : Found p n → (b : Bool) → p n ≡ b → Found p (suc n)
    go (first i l q e) b h = first i (omega arith) q e
    go (nowhere e) true h = first n (omega arith) h e
    go (nowhere e) false h = nowhere (unfold any in rw (e, h))

-- ---- filled

module _ (f : ℕ → ℕ) where
  pub filled_zero : (xs : List ℕ) → filled f 0 xs ≡ xs
  unfolding filled
  filled_zero xs = refl

  pub length-filled : (n : ℕ) (xs : List ℕ) → length (filled f n xs) ≡ length xs
  unfolding filled
  length-filled zero xs = refl
  length-filled (suc n) xs = length-set (filled f n xs) n (f n) ∙ length-filled n xs

  pub filled-above : (n k : ℕ) (xs : List ℕ) → n ≤ k → get_or (filled f n xs) k 0 ≡ get_or xs k 0
  unfolding filled
  filled-above zero k xs l = refl
  filled-above (suc n) k xs l = get_or-set_other (filled f n xs) n k (f n) 0 (λ e. omega arith) ∙ filled-above n k xs (omega arith)

  pub filled-below : (n k : ℕ) (xs : List ℕ) → k < n → n ≤ length xs → get_or (filled f n xs) k 0 ≡ f k
  unfolding filled
  filled-below zero k xs l m = absurd (not-suc-le-zero l)
  filled-below (suc n) k xs l m =
      ⊎_elim
      (λ e. rw (e, get_or-set_same (filled f n xs) n (f n) 0 (omega (arith, length-filled n xs))))
      (λ h. get_or-set_other (filled f n xs) n k (f n) 0 (λ e. omega arith) ∙ filled-below n k xs h (omega arith))
      (eq-or-lt_of_le (le_of_suc-le-suc l))

  pub filled-drop : (n k : ℕ) (xs : List ℕ) → n ≤ k → drop k (filled f n xs) ≡ drop k xs
  unfolding filled
  filled-drop zero k xs l = refl
  filled-drop (suc n) k xs l = drop-set-lt k (filled f n xs) n (f n) l ∙ filled-drop n k xs (omega arith)

  -- In turn i the number at i is still the old one, and its new one is stored.
  pub filled-old : (i : ℕ) (xs ys : List ℕ) → ys ≡ filled f i xs → get_or ys i 0 ≡ get_or xs i 0
  filled-old i xs ys e = rw e (filled-above i i xs (omega arith))

  pub filled-turn : (i : ℕ) (xs ys : List ℕ) (v : ℕ) → ys ≡ filled f i xs → v ≡ f i → set ys i v ≡ filled f (i + 1) xs
  unfolding filled
  filled-turn i xs ys v e h = rw (add-one, e, h)

  pub filled-end : (i n : ℕ) (xs ys : List ℕ) → i ≤ n → n ≤ i → ys ≡ filled f i xs → ys ≡ filled f n xs
  filled-end i n xs ys = at-end (λ k. filled f k xs) i n
