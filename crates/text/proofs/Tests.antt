-- Cases on a test.
use mathlib.Core.Bool.{Bool, true, false, ◌&&◌}
use mathlib.Core.Path.{◌≡◌, refl}
use Prim.Native.Nat.{ℕ, ◌<◌, ◌≤◌}
use lib.Dec.{ltb}
use borrow.Author.Tests.{ltb-true, ltb-false}

pub by : (P : Bool → Type 0) (t : Bool) → (t ≡ true → P true) → (t ≡ false → P false) → P t
by P true f g = f refl
by P false f g = g refl

pub by-lt : (P : Type 0) (a b : ℕ) → (a < b → P) → (b ≤ a → P) → P
by-lt P a b f g = by (λ _. P) (ltb a b) (λ e. f (ltb-true a b e)) (λ e. g (ltb-false a b e))

pub both_true : (a b : Bool) → a && b ≡ true → (a ≡ true) × (b ≡ true)
both_true true b e = (refl, e)
both_true false b e = (e, cc)
