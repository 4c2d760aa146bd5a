-- The first deadline of a task owed work.
--   First due owed n d   d is the last tick, or the deadline of a task owed work
use mathlib.Core.Bool.{Bool, true, false}
use mathlib.Core.List.{List}
use mathlib.Core.Logic.{◌⊎◌, inl, inr, ⊎_elim}
use mathlib.Core.Path.{◌≡◌, refl, sym, ap, ◌∙◌}
use native.Mathlib.Nat.{eq-or-lt_of_le, le_of_suc-le-suc, not-suc-le-zero}
use native.Mathlib.Numerals.{add-one}
use native.Mathlib.Omega.{arith}
use borrow.Author.Tests.{eqb-false, ne_eqb}
use Prim.Native.Nat.{ℕ, zero, suc, ◌+◌, ◌≤◌, ◌<◌, min}
use lib.Dec.{eqb}
use lib.ListN.{get_or}
use Rattle.advance.specs.Inside.Alone.{nearer, first_due}
use Rattle.demand.proofs.Divide.{le-or-lt}
use Rattle.demand.specs.Limits.{ticks_most}
use Rattle.demand.specs.Tests.{pick}

pub data First (due owed : List ℕ) (n d : ℕ) : Type 0 where
  last : d ≡ ticks_most → First due owed n d
  of : (j : ℕ) → j < n → 0 < get_or owed j 0 → d ≡ get_or due j 0 → First due owed n d

nearer-le : (first owed due : ℕ) → nearer first owed due ≤ first
nearer-le first owed due = go (eqb owed 0)
  where
    go : (b : Bool) → pick b first (min first due) ≤ first
    go true = omega arith
    go false = omega arith

nearer-due : (first owed due : ℕ) → 0 < owed → nearer first owed due ≤ due
nearer-due first owed due some = rw (ne_eqb owed 0 (λ none. omega arith)) (omega arith)

module _ (due owed : List ℕ) where
  pub first-zero : first_due due owed 0 ≡ ticks_most
  unfolding first_due
  first-zero = refl

  pub first_next : (k : ℕ) → first_due due owed (k + 1) ≡ nearer (first_due due owed k) (get_or owed k 0) (get_or due k 0)
  unfolding first_due
  first_next k = rw add-one

  -- A turn of the loop.
  pub first-turn : (k first d : ℕ) → first ≡ first_due due owed k
      → d ≡ nearer first (get_or owed k 0) (get_or due k 0) → d ≡ first_due due owed (k + 1)
  first-turn k first d e f = f ∙ ap (λ (x : ℕ). nearer x (get_or owed k 0) (get_or due k 0)) e ∙ sym (first_next k)

  -- It is not past the last tick, ..
  pub first-most : (n : ℕ) → first_due due owed n ≤ ticks_most
  unfolding first_due
  first-most zero = omega arith
  first-most (suc n) = omega (arith, first-most n, nearer-le (first_due due owed n) (get_or owed n 0) (get_or due n 0))

  -- .. nor past a deadline of a task owed work, ..
  pub first-le : (n j : ℕ) → j < n → 0 < get_or owed j 0 → first_due due owed n ≤ get_or due j 0
  unfolding first_due
  first-le zero j l some = absurd (not-suc-le-zero l)
  first-le (suc n) j l some =
      ⊎_elim
      (λ e. rw e (nearer-due (first_due due owed n) (get_or owed n 0) (get_or due n 0) (rw e at some)))
      (λ m. omega (arith, first-le n j m some, nearer-le (first_due due owed n) (get_or owed n 0) (get_or due n 0)))
      (eq-or-lt_of_le (le_of_suc-le-suc l))

  -- .. and it is one of these.
  pub first-is : (n : ℕ) → First due owed n (first_due due owed n)
  unfolding first_due
  first-is zero = last refl
  first-is (suc n) = go (first-is n) (eqb (get_or owed n 0) 0) refl (le-or-lt (first_due due owed n) (get_or due n 0))
    where
      old : First due owed n (first_due due owed n) → First due owed (suc n) (first_due due owed n)
      old (last e) = last e
      old (of j l some e) = of j (omega arith) some e

      go : First due owed n (first_due due owed n) → (b : Bool) → eqb (get_or owed n 0) 0 ≡ b
          → (first_due due owed n ≤ get_or due n 0) ⊎ (get_or due n 0 < first_due due owed n)
          → First due owed (suc n) (pick b (first_due due owed n) (min (first_due due owed n) (get_or due n 0)))
      go f true e order = old f
      go f false e (inl le) =
          let same : min (first_due due owed n) (get_or due n 0) ≡ first_due due owed n = omega arith in
          rw same (old f)
      go f false e (inr lt) =
          let same : min (first_due due owed n) (get_or due n 0) ≡ get_or due n 0 = omega arith in
          let some : get_or owed n 0 ≡ 0 → ⊥ = eqb-false (get_or owed n 0) 0 e in
          rw same (of n (omega arith) (omega arith) refl)
