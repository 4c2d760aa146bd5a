-- Laws of the search for a cost: at each byte it stops, or goes on with the bytes behind.
use mathlib.Core.Bool.{Bool, true, false, ◌&&◌}
use mathlib.Core.List.{List}
use mathlib.Core.Path.{◌≡◌, refl, sym, ap, ◌∙◌}
use native.Mathlib.Numerals.{add-one}
use native.Mathlib.Omega.{arith}
use borrow.Author.Tests.{eqb-true}
use Prim.Native.Nat.{ℕ, zero, suc, ◌+◌, ◌-◌, ◌<◌}
use lib.Dec.{eqb}
use lib.ListN.{length, get_or, drop}
use lib.Seq.{drop-cons, drop-length}
use Rattle.demand.specs.Tests.{pick}
use Rattle.recost.specs.Inside.Scan.{opens, behind_name, reached, cost_from}

-- Either there is a task before the one that is looked for, or this is it.
stops : (o : Bool) (k rest : ℕ) → (o && eqb k 0) ≡ true → reached o k rest ≡ behind_name
stops true zero rest e = refl
stops true (suc k) rest e = absurd (let z : suc k ≡ 0 = eqb-true (suc k) 0 e in omega arith)
stops false k rest e = absurd (let z : ◌≡◌ {A = ℕ} 0 1 = ap (λ (b : Bool). pick b 1 0) e in omega arith)

goes : (o : Bool) (k rest : ℕ) → (o && eqb k 0) ≡ false → reached o k rest ≡ suc rest
goes true zero rest e = absurd (let z : ◌≡◌ {A = ℕ} 0 1 = ap (λ (b : Bool). pick b 0 1) (sym (eqb-self) ∙ e) in omega arith)
  where
    eqb-self : eqb 0 0 ≡ true
    eqb-self = refl
goes true (suc k) rest e = refl
goes false k rest e = refl

module _ (bs : List ℕ) (i k : ℕ) (inside : i < length bs) where
  abbrev begins : Bool
  begins = opens (get_or bs i 0) (drop (i + 1) bs)

  from-here : cost_from (drop i bs) k ≡ reached begins k (cost_from (drop (i + 1) bs) (k - pick begins 1 0))
  unfolding cost_from
  from-here =
      ap (λ (xs : List ℕ). cost_from xs k) (drop-cons bs i 0 inside)
      ∙ ap (λ (j : ℕ). reached (opens (get_or bs i 0) (drop j bs)) k (cost_from (drop j bs) (k - pick (opens (get_or bs i 0) (drop j bs)) 1 0))) (sym (add-one i))

  pub scan-stops : (begins && eqb k 0) ≡ true → cost_from (drop i bs) k ≡ behind_name
  scan-stops e = from-here ∙ stops begins k _ e

  pub scan-goes : (begins && eqb k 0) ≡ false → cost_from (drop i bs) k ≡ suc (cost_from (drop (i + 1) bs) (k - pick begins 1 0))
  scan-goes e = from-here ∙ goes begins k _ e

-- At the end nothing is left.
pub scan-ends : (bs : List ℕ) (i k : ℕ) → length bs ≡ i → cost_from (drop i bs) k ≡ 0
unfolding cost_from
scan-ends bs i k e = ap (λ (j : ℕ). cost_from (drop j bs) k) (sym e) ∙ ap (λ (xs : List ℕ). cost_from xs k) (drop-length bs)
