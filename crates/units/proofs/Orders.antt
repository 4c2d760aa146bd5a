-- The demands of a table in another order (specs/Orders): sums do not mind it.
use mathlib.Core.Bool.{Bool, true, false, ◌||◌}
use mathlib.Core.List.{List}
use mathlib.Core.Path.{◌≡◌, refl, ap, ◌∙◌}
use native.Mathlib.Omega.{arith}
use lib.ListN.{length}
use Prim.Native.Nat.{ℕ, suc}
use Rattle.demand.specs.Demands.{called_by, due_by, called, handled, left, due, Passes, Fails}
use Rattle.units.specs.Orders.{Shuffled}
use Rattle.units.specs.Orders.Shuffled.{nothing, same, swapped, then}
use Rattle.demand.specs.Rows.{Row, total, some, Each}
use Rattle.demand.proofs.Taken.{taken_mono}

-- ---- any figure, any test, any fact of rows

pub total-shuffled : (g : Row → ℕ) {rs qs : List Row} → Shuffled rs qs → total g rs ≡ total g qs
unfolding total
total-shuffled g nothing = refl
total-shuffled g (same s) = omega (arith, total-shuffled g s)
total-shuffled g swapped = omega arith
total-shuffled g (then s t) = total-shuffled g s ∙ total-shuffled g t

or-swapped : (a b c : Bool) → (a || (b || c)) ≡ (b || (a || c))
or-swapped true true c = refl
or-swapped true false c = refl
or-swapped false true c = refl
or-swapped false false c = refl

pub some-shuffled : (test : Row → Bool) {rs qs : List Row} → Shuffled rs qs → some test rs ≡ some test qs
unfolding some
some-shuffled test nothing = refl
some-shuffled test (same {r} s) = ap (λ (b : Bool). test r || b) (some-shuffled test s)
some-shuffled test (swapped {r} {q} {rs}) = or-swapped (test r) (test q) (some test rs)
some-shuffled test (then s t) = some-shuffled test s ∙ some-shuffled test t

pub each-shuffled : (P : Row → Type 0) {rs qs : List Row} → Shuffled rs qs → Each P rs → Each P qs
each-shuffled P nothing e = tt
each-shuffled P (same s) e = (e.0, each-shuffled P s e.1)
each-shuffled P swapped e = (e.1.0, (e.0, e.1.1))
each-shuffled P (then s t) e = each-shuffled P t (each-shuffled P s e)

pub length-shuffled : {rs qs : List Row} → Shuffled rs qs → length rs ≡ length qs
length-shuffled nothing = refl
length-shuffled (same s) = ap suc (length-shuffled s)
length-shuffled swapped = refl
length-shuffled (then s t) = length-shuffled s ∙ length-shuffled t

-- The order can be put back.
pub shuffled-back : {rs qs : List Row} → Shuffled rs qs → Shuffled qs rs
shuffled-back nothing = nothing
shuffled-back (same s) = same (shuffled-back s)
shuffled-back swapped = swapped
shuffled-back (then s t) = then (shuffled-back t) (shuffled-back s)

-- ---- the demands

pub called-shuffled : {rs qs : List Row} → Shuffled rs qs → (l : ℕ) → called rs l ≡ called qs l
unfolding called
called-shuffled s l = total-shuffled (called_by l) s

pub due-shuffled : {rs qs : List Row} → Shuffled rs qs → (l : ℕ) → due rs l ≡ due qs l
unfolding due
due-shuffled s l = total-shuffled (due_by l) s

pub handled-shuffled : {rs qs : List Row} → Shuffled rs qs → (l : ℕ) → handled rs l ≡ handled qs l
unfolding handled
handled-shuffled {rs} {qs} s l =
    omega (
      arith,
      taken_mono (called rs) (called qs) (λ m. omega (arith, called-shuffled s (suc m))) l,
      taken_mono (called qs) (called rs) (λ m. omega (arith, called-shuffled s (suc m))) l,
    )

pub left-shuffled : {rs qs : List Row} → Shuffled rs qs → (l : ℕ) → left rs l ≡ left qs l
unfolding left
left-shuffled s l = omega (arith, called-shuffled s l, handled-shuffled s l)

module _ {ts hs us is : List Row} (st : Shuffled ts us) (sh : Shuffled hs is) where
  pub passes-shuffled : (l : ℕ) → Passes ts hs l → Passes us is l
  passes-shuffled l h = omega (arith, due-shuffled st l, handled-shuffled sh l)

  pub fails-shuffled : (l : ℕ) → Fails ts hs l → Fails us is l
  fails-shuffled l h = omega (arith, due-shuffled st l, handled-shuffled sh l)
