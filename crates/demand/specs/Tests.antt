-- Tests and choices that the definitions share.
--   pick b x y          == x where the test b holds, else y
--   first_refusal tests  == the number of the first test that holds, in the order of the list, 0 where none does
--   NoneHolds tests     no test of the list holds
use Rattle.std.specs.Prelude.{Bool, true, false, List, [], ◌∷◌, ◌≡◌, ℕ}

abbrev pub pick {ℓ} : {A : Type ℓ} → Bool → A → A → A
pick true x y = x
pick false x y = y

-- A refusal's number stands beside its test.
unfoldable pub first_refusal : List (ℕ × Bool) → ℕ
first_refusal [] = 0
first_refusal (t ∷ ts) = pick t.1 t.0 (first_refusal ts)

abbrev pub NoneHolds : List (ℕ × Bool) → Type 0
NoneHolds [] = Unit
NoneHolds (t ∷ ts) = (t.1 ≡ false) × NoneHolds ts
