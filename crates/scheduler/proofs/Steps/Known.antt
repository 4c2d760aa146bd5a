-- A chain of refusals each of whose numbers is a refusal's: so is the one that is given.
--   Known ts   every number of the tests ts is a refusal's
use mathlib.Core.Bool.{Bool, true, false}
use mathlib.Core.List.{List, [], ◌∷◌}
use mathlib.Core.Path.{◌≡◌, refl}
use Prim.Native.Nat.{ℕ}
use Rattle.demand.specs.Numbered.{number_of, refusal_at}
use Rattle.demand.specs.Tests.{pick, first_refusal}

abbrev pub Known : List (ℕ × Bool) → Type 0
Known [] = Unit
Known (t ∷ ts) = (number_of (refusal_at t.0) ≡ t.0) × Known ts

pub first-known : (ts : List (ℕ × Bool)) → Known ts → (first_refusal ts ≡ 0 → ⊥) → number_of (refusal_at (first_refusal ts)) ≡ first_refusal ts
unfolding first_refusal
first-known [] known some = absurd (some refl)
first-known (t ∷ ts) known some = go t.1 some (λ n. first-known ts known.1 n)
  where
    go : (b : Bool) → (pick b t.0 (first_refusal ts) ≡ 0 → ⊥)
        → ((first_refusal ts ≡ 0 → ⊥) → number_of (refusal_at (first_refusal ts)) ≡ first_refusal ts)
        → number_of (refusal_at (pick b t.0 (first_refusal ts))) ≡ pick b t.0 (first_refusal ts)
    go true n rest = known.0
    go false n rest = rest n
