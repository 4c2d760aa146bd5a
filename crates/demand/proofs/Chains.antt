-- A chain of refusals: a list of tests with their numbers, of which the first that holds is given.
--   numbered ts     == every number is at least 1, so that 0 says that no test holds
--   holds_at ts n    == the test at place n; number_at ts n is its number
use mathlib.Core.Bool.{Bool, true, false, ◌&&◌}
use mathlib.Core.List.{List, [], ◌∷◌, ◌++◌}
use mathlib.Core.Path.{◌≡◌, refl}
use native.Mathlib.Omega.{arith}
use Prim.Native.Nat.{ℕ, zero, suc, ◌<◌}
use lib.Dec.{ltb}
use lib.ListN.{take}
use borrow.Author.Tests.{ltb-true}
use Rattle.demand.specs.Tests.{pick, first_refusal, NoneHolds}

abbrev pub numbered : List (ℕ × Bool) → Bool
numbered [] = true
numbered (t ∷ ts) = ltb 0 t.0 && numbered ts

abbrev pub holds_at : List (ℕ × Bool) → ℕ → Bool
holds_at [] n = false
holds_at (t ∷ ts) zero = t.1
holds_at (t ∷ ts) (suc n) = holds_at ts n

abbrev pub number_at : List (ℕ × Bool) → ℕ → ℕ
number_at [] n = 0
number_at (t ∷ ts) zero = t.0
number_at (t ∷ ts) (suc n) = number_at ts n

-- The first that holds is given,
pub first-at : (ts : List (ℕ × Bool)) (n : ℕ) → NoneHolds (take n ts) → holds_at ts n ≡ true → number_at ts n ≡ first_refusal ts
unfolding first_refusal
first-at [] n none h = absurd (let z : ◌≡◌ {A = ℕ} 0 1 = cc in omega arith)
first-at (t ∷ ts) zero none h = rw h
first-at (t ∷ ts) (suc n) none h = rw none.0 (first-at ts n none.1 h)

-- and 0 where none does.
pub first-none : (ts : List (ℕ × Bool)) → NoneHolds ts → 0 ≡ first_refusal ts
unfolding first_refusal
first-none [] none = refl
first-none (t ∷ ts) none = rw none.0 (first-none ts none.1)

-- Where 0 is given no test holds.
pub none_first : (ts : List (ℕ × Bool)) → numbered ts ≡ true → first_refusal ts ≡ 0 → NoneHolds ts
unfolding first_refusal
none_first [] some e = tt
none_first (t ∷ ts) some e = go t.1 refl (ltb 0 t.0) refl some e (λ n z. none_first ts n z)
  where
    later : Type 0
    later = numbered ts ≡ true → first_refusal ts ≡ 0 → NoneHolds ts

    go : (b : Bool) → t.1 ≡ b → (c : Bool) → ltb 0 t.0 ≡ c → (c && numbered ts) ≡ true → pick b t.0 (first_refusal ts) ≡ 0 → later → NoneHolds (t ∷ ts)
    go true eb true ec n z rest = absurd (omega (arith, ltb-true 0 t.0 ec))
    go true eb false ec n z rest = absurd (let w : ◌≡◌ {A = ℕ} 0 1 = cc in omega arith)
    go false eb true ec n z rest = (eb, rest n z)
    go false eb false ec n z rest = absurd (let w : ◌≡◌ {A = ℕ} 0 1 = cc in omega arith)

-- Later tests speak exactly where no earlier one holds.
pub first-later : (ts us : List (ℕ × Bool)) → NoneHolds ts → first_refusal (ts ++ us) ≡ first_refusal us
unfolding first_refusal
first-later [] us none = refl
first-later (t ∷ ts) us none = rw none.0 (first-later ts us none.1)

pub first-earlier : (ts us : List (ℕ × Bool)) → 0 < first_refusal ts → first_refusal (ts ++ us) ≡ first_refusal ts
unfolding first_refusal
first-earlier [] us some = absurd (omega arith)
first-earlier (t ∷ ts) us some = go t.1 some (first-earlier ts us)
  where
    go : (b : Bool) → 0 < pick b t.0 (first_refusal ts) → (0 < first_refusal ts → first_refusal (ts ++ us) ≡ first_refusal ts)
        → pick b t.0 (first_refusal (ts ++ us)) ≡ pick b t.0 (first_refusal ts)
    go true h rest = refl
    go false h rest = rest h
