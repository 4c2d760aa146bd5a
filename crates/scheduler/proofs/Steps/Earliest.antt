-- What the search for the task with the smallest key finds: among the first n tasks that are owed work the one with the smallest key, the lowest row of several.
use mathlib.Core.Bool.{Bool, true, false, ◌&&◌, false≢true}
use mathlib.Core.List.{List}
use mathlib.Core.Logic.{⊎_elim}
use mathlib.Core.Path.{◌≡◌, refl, sym}
use native.Mathlib.Nat.{eq-or-lt_of_le, le_of_suc-le-suc, not-suc-le-zero}
use native.Mathlib.Numerals.{add-one}
use native.Mathlib.Omega.{arith}
use borrow.Author.Tests.{ltb-true, ltb-false}
use Prim.Native.Nat.{ℕ, zero, suc, ◌+◌, ◌≤◌, ◌<◌}
use lib.Dec.{ltb}
use lib.ListN.{get_or}
use Rattle.std.specs.Prelude.{Option, None, Some}
use Rattle.demand.specs.Tests.{pick}
use Rattle.scheduler.specs.Tick.{smaller, better, earliest}
use Rattle.scheduler.specs.declared.tick.Best.{Best}

-- ---- in the form in which the loop makes its turns

module _ (key : ℕ → ℕ) (owed : List ℕ) where
  pub earliest-zero : earliest key owed 0 ≡ None
  unfolding earliest
  earliest-zero = refl

  pub earliest-next : (i : ℕ) → earliest key owed (i + 1) ≡ better (earliest key owed i) i (get_or owed i 0) (key i)
  unfolding earliest
  earliest-next i = rw add-one

-- ---- as facts

-- a task of the table, owed work, with its key
pub record Least (key : ℕ → ℕ) (owed : List ℕ) (n : ℕ) (b : Best) : Type 0 where
  pub row : b.row < n
  pub work : 0 < get_or owed b.row 0
  pub key_of : b.key ≡ key b.row
  -- no task that is owed work has a smaller key, and none above it as small a one
  pub least : (k : ℕ) → k < n → 0 < get_or owed k 0 → b.key ≤ key k
  pub lowest : (k : ℕ) → k < b.row → 0 < get_or owed k 0 → b.key < key k

-- None is found: no task is owed work.
abbrev pub Earliest : (ℕ → ℕ) → List ℕ → ℕ → Option Best → Type 0
Earliest key owed n None = (k : ℕ) → k < n → get_or owed k 0 ≡ 0
Earliest key owed n (Some b) = Least key owed n b

-- One more row, by the outcome of the test.
module _ (key : ℕ → ℕ) (owed : List ℕ) (n : ℕ) where
  -- The new row, or one of those before it.
  up_to : {P : ℕ → Type 0} → P n → ((k : ℕ) → k < n → P k) → (k : ℕ) → k < suc n → P k
  up_to {P} here there k l = ⊎_elim (λ q. rw q here) (λ m. there k m) (eq-or-lt_of_le (le_of_suc-le-suc l))

  first : 0 < get_or owed n 0 → Earliest key owed n None → Least key owed (suc n) (record { row = n; key = key n })
  first work none = record {
    row = omega arith;
    work = work;
    key_of = refl;
    least = λ k l w. up_to {P = λ k. 0 < get_or owed k 0 → key n ≤ key k} (λ w. omega arith) (λ k l w. absurd (omega (arith, none k l))) k l w;
    lowest = λ k l w. absurd (omega (arith, none k l));
  }

  taken : 0 < get_or owed n 0 → (b : Best) → key n < b.key → Least key owed n b → Least key owed (suc n) (record { row = n; key = key n })
  taken work b less e = record {
    row = omega arith;
    work = work;
    key_of = refl;
    least = λ k l w. up_to {P = λ k. 0 < get_or owed k 0 → key n ≤ key k} (λ w. omega arith) (λ k l w. omega (arith, less, e.least k l w)) k l w;
    lowest = λ k l w. omega (arith, less, e.least k l w);
  }

  kept : (b : Best) → (0 < get_or owed n 0 → b.key ≤ key n) → Least key owed n b → Least key owed (suc n) b
  kept b no-better e = record {
    row = omega (arith, e.row);
    work = e.work;
    key_of = e.key_of;
    least = up_to {P = λ k. 0 < get_or owed k 0 → b.key ≤ key k} no-better e.least;
    lowest = e.lowest;
  }

  idle : get_or owed n 0 ≡ 0 → Earliest key owed n None → Earliest key owed (suc n) None
  idle rest none = up_to {P = λ k. get_or owed k 0 ≡ 0} rest none

  -- The test taken apart: owed work, a smaller key.
  tested : (b : Option Best) (w d : Bool) → Earliest key owed n b → ltb 0 (get_or owed n 0) ≡ w → smaller b (key n) ≡ d
      → Earliest key owed (suc n) (pick (w && d) (Some (record { row = n; key = key n })) b)
  tested None true true e hw hd = first (ltb-true _ _ hw) e
  tested None true false e hw hd = absurd (false≢true (sym hd))
  tested None false d e hw hd = idle (omega (arith, ltb-false 0 (get_or owed n 0) hw)) e
  tested (Some b) true true e hw hd = taken (ltb-true _ _ hw) b (ltb-true _ _ hd) e
  tested (Some b) true false e hw hd = kept b (λ w. ltb-false _ _ hd) e
  tested (Some b) false d e hw hd = kept b (λ w. absurd (omega (arith, ltb-false 0 (get_or owed n 0) hw))) e

pub earliest-is : (key : ℕ → ℕ) (owed : List ℕ) (n : ℕ) → Earliest key owed n (earliest key owed n)
unfolding earliest
earliest-is key owed zero = λ k l. absurd (not-suc-le-zero l)
earliest-is key owed (suc n) = tested key owed n (earliest key owed n) _ _ (earliest-is key owed n) refl refl
