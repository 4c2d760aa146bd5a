-- Laws of a list made place by place.
use mathlib.Core.List.{List, [], ◌∷◌, ◌++◌}
use mathlib.Core.Path.{◌≡◌, refl, ap, ◌∙◌}
use native.Mathlib.Nat.{zero-add}
use native.Mathlib.Omega.{arith}
use Prim.Native.Nat.{ℕ, zero, suc, ◌+◌, ◌<◌}
use lib.ListN.{length, get_or}
use Rattle.columns.specs.Order.{tabled_from, tabled}

module _ {ℓ} {A : Type ℓ} (f : ℕ → A) where
  pub tabled-length : (j n : ℕ) → length (tabled_from j f n) ≡ n
  unfolding tabled_from
  tabled-length j zero = refl
  tabled-length j (suc n) = ap suc (tabled-length (suc j) n)

  pub tabled-from-at : (j n i : ℕ) (d : A) → i < n → get_or (tabled_from j f n) i d ≡ f (j + i)
  unfolding tabled_from
  tabled-from-at j zero i d h = absurd (omega arith)
  tabled-from-at j (suc n) zero d h = ap f (let e : j ≡ j + 0 = omega arith in e)
  tabled-from-at j (suc n) (suc i) d h = tabled-from-at (suc j) n i d (omega arith) ∙ ap f (let e : suc j + i ≡ j + suc i = omega arith in e)

  pub tabled-at : (n i : ℕ) (d : A) → i < n → get_or (tabled f n) i d ≡ f i
  tabled-at n i d h = tabled-from-at 0 n i d h ∙ ap f (zero-add i)

  tabled-from-next : (j n : ℕ) → tabled_from j f (suc n) ≡ tabled_from j f n ++ (f (j + n) ∷ [])
  unfolding tabled_from
  tabled-from-next j zero = ap (λ (i : ℕ). f i ∷ []) (let e : j ≡ j + 0 = omega arith in e)
  tabled-from-next j (suc n) =
      ap (λ (xs : List A). f j ∷ xs) (tabled-from-next (suc j) n ∙ ap (λ (i : ℕ). tabled_from (suc j) f n ++ (f i ∷ [])) (let e : suc j + n ≡ j + suc n = omega arith in e))

  -- One place more.
  pub tabled-next : (n : ℕ) → tabled f (suc n) ≡ tabled f n ++ (f n ∷ [])
  tabled-next n = tabled-from-next 0 n ∙ ap (λ (i : ℕ). tabled f n ++ (f i ∷ [])) (zero-add n)
