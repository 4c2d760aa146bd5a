-- The margin as a signed number: one difference, below 0 exactly where the interval fails, and the machine's own arithmetic comes to it.
use mathlib.Core.Bool.{Bool, true, false, cond}
use mathlib.Core.List.{List}
use mathlib.Core.Path.{◌≡◌, refl, ap, sym, ◌∙◌, subst}
use mir.Syntax.{w64}
use mir.Val.{SFits, to_z, of_z}
use mir.ValLaws.{to_z_pos, to_z-of_z}
use native.Mathlib.Omega.{arith}
use borrow.Author.Tests.{lt-ltb, le-ltb, ltb-true}
use Prim.Native.Nat.{ℕ, zero, suc, ◌+◌, ◌-◌, ◌^◌, ◌<◌}
use lib.Dec.{ltb}
use lib.IntN.{ℤ, pos, negsuc, neg_ℤ, sub_ℕ, ◌+ℤ◌, ◌-ℤ◌, +ℤ_assoc, neg_ℤ-+ℤ}
use Rattle.demand.specs.Demands.{handled, due, margin, Fails, Negative}
use Rattle.demand.specs.Rows.{Row, Valid}
use Rattle.demand.proofs.Demands.{handled-zero, due-zero}

one_less : (l w : ℕ) → pos l -ℤ pos w ≡ sub_ℕ l w
one_less l zero = rw (le-ltb l 0 (omega arith)) (ap pos (omega arith))
one_less l (suc w) = refl

-- Two natural numbers taken away one after the other, and their sum at once.
pub both-less : (l f d : ℕ) → pos l -ℤ pos f -ℤ pos d ≡ sub_ℕ l (f + d)
both-less l f d =
    +ℤ_assoc (pos l) (neg_ℤ (pos f)) (neg_ℤ (pos d))
    ∙ ap (λ (z : ℤ). pos l +ℤ z) (sym (neg_ℤ-+ℤ (pos f) (pos d)))
    ∙ one_less l (f + d)

-- A difference is below 0 exactly where the first is less.
negative-lt : (l w : ℕ) → Negative (sub_ℕ l w) → l < w
negative-lt l w n = go (ltb l w) refl n
  where
    go : (b : Bool) → ltb l w ≡ b → Negative (cond b (negsuc (w - suc l)) (pos (l - w))) → l < w
    go true e n = ltb-true l w e
    go false e n = absurd n

lt-negative : (l w : ℕ) → l < w → Negative (sub_ℕ l w)
lt-negative l w h = rw (lt-ltb l w h) tt

pub negative-fails : (ts hs : List Row) (l : ℕ) → Negative (margin ts hs l) → Fails ts hs l
unfolding margin
negative-fails ts hs l n = negative-lt l (handled hs l + due ts l) (subst Negative (both-less l (handled hs l) (due ts l)) n)

pub fails-negative : (ts hs : List Row) (l : ℕ) → Fails ts hs l → Negative (margin ts hs l)
unfolding margin
fails-negative ts hs l h = subst Negative (sym (both-less l (handled hs l) (due ts l))) (lt-negative l (handled hs l + due ts l) h)

-- At rest nothing is asked and nothing is left.
pub margin-zero : (ts hs : List Row) → Valid ts → margin ts hs 0 ≡ pos 0
unfolding margin
margin-zero ts hs valid = rw (handled-zero hs, due-zero ts valid)

-- The margin from three figures in hand.
pub margin-read : (ts hs : List Row) (l f d : ℕ) → f ≡ handled hs l → d ≡ due ts l → pos l -ℤ pos f -ℤ pos d ≡ margin ts hs l
unfolding margin
margin-read ts hs l f d ef ed = rw (ef, ed)

-- ---- the machine's differences, on numbers of 61 bits

fits_by : (l w : ℕ) → l < 2 ^ 62 → w < 2 ^ 62 → (b : Bool) → SFits w64 (cond b (negsuc (w - suc l)) (pos (l - w)))
fits_by l w hl hw true = omega arith
fits_by l w hl hw false = omega arith

module _ (l f d : ℕ) (hl : l < 2 ^ 61) (hf : f < 2 ^ 61) (hd : d < 2 ^ 61) where
  pub first-is : to_z w64 l -ℤ to_z w64 f ≡ pos l -ℤ pos f
  first-is = ap (λ (z : ℤ). z -ℤ to_z w64 f) (to_z_pos w64 l (omega arith)) ∙ ap (λ (z : ℤ). pos l -ℤ z) (to_z_pos w64 f (omega arith))

  pub first_fits : SFits w64 (to_z w64 l -ℤ to_z w64 f)
  first_fits = rw (first-is, one_less l f) (fits_by l f (omega arith) (omega arith) (ltb l f))

  pub both_is : to_z w64 (of_z w64 (to_z w64 l -ℤ to_z w64 f)) -ℤ to_z w64 d ≡ pos l -ℤ pos f -ℤ pos d
  both_is =
      ap (λ (z : ℤ). z -ℤ to_z w64 d) (to_z-of_z w64 (to_z w64 l -ℤ to_z w64 f) first_fits ∙ first-is)
      ∙ ap (λ (z : ℤ). pos l -ℤ pos f -ℤ z) (to_z_pos w64 d (omega arith))

  pub both-fits : SFits w64 (to_z w64 (of_z w64 (to_z w64 l -ℤ to_z w64 f)) -ℤ to_z w64 d)
  both-fits = rw (both_is, both-less l f d) (fits_by l (f + d) (omega arith) (omega arith) (ltb l (f + d)))
