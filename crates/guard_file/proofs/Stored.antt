-- With one guard more: the first refused one, the lines of all, and the rows that are stored.
use mathlib.Core.List.{List, [], ◌∷◌, ◌++◌, append-nil, append_assoc}
use mathlib.Core.Path.{◌≡◌, refl, sym, ap, ◌∙◌}
use native.Mathlib.Omega.{arith}
use Prim.Native.Nat.{ℕ, zero, suc, ◌+◌, ◌*◌, ◌≤◌, ◌<◌}
use borrow.Author.Tests.{eqb-false}
use lib.Dec.{eqb}
use lib.ListN.{length, get_or, set, length-set}
use lib.Seq.{get_or-set_same, get_or-set_other}
use Rattle.demand.specs.Tests.{pick}
use Rattle.guard_file.specs.Inside.Building.{stored}
use Rattle.guard_file.specs.Inside.Pages.{guard_lines_by, lines_up_to}
use Rattle.guard_file.specs.Page.{guard_lines, all_lines, refusal, first_refused}
use Rattle.guards.specs.Guards.{guard_refusal}
use Rattle.guards.specs.declared.Guard.{Guard}
use Rattle.text.proofs.Tests.{by}

-- ---- the first refused guard, with one guard more

pub first-none : (i : ℕ) (hs : List Guard) (g : Guard) → (first_refused i hs).number ≡ 0
    → first_refused i (hs ++ (g ∷ [])) ≡ first_refused (i + length hs) (g ∷ [])
first-none i [] g e = let same : i ≡ i + 0 = omega arith in ap (λ (n : ℕ). first_refused n (g ∷ [])) same
first-none i (h ∷ hs) g e =
    by (λ t. eqb (guard_refusal h) 0 ≡ t → (pick t (first_refused (suc i) hs) (refusal (guard_refusal h) i)).number ≡ 0
    → pick t (first_refused (suc i) (hs ++ (g ∷ []))) (refusal (guard_refusal h) i) ≡ first_refused (i + suc (length hs)) (g ∷ []))
    (eqb (guard_refusal h) 0)
    (λ _. λ _. λ none.
    let same : suc i + length hs ≡ i + suc (length hs) = omega arith in
    first-none (suc i) hs g none ∙ ap (λ (n : ℕ). first_refused n (g ∷ [])) same)
    (λ _. λ t. λ none. absurd (eqb-false (guard_refusal h) 0 t none))
    refl e

pub first_some : (i : ℕ) (hs : List Guard) (g : Guard) → 0 < (first_refused i hs).number → first_refused i (hs ++ (g ∷ [])) ≡ first_refused i hs
first_some i [] g e = absurd (omega arith)
first_some i (h ∷ hs) g e =
    by (λ t. 0 < (pick t (first_refused (suc i) hs) (refusal (guard_refusal h) i)).number
    → pick t (first_refused (suc i) (hs ++ (g ∷ []))) (refusal (guard_refusal h) i)
    ≡ pick t (first_refused (suc i) hs) (refusal (guard_refusal h) i))
    (eqb (guard_refusal h) 0)
    (λ _. λ some. first_some (suc i) hs g some)
    (λ _. λ some. refl)
    e

pub lines-append : (hs : List Guard) (g : Guard) → all_lines (hs ++ (g ∷ [])) ≡ all_lines hs ++ guard_lines g
lines-append [] g = append-nil (guard_lines g)
lines-append (h ∷ hs) g =
    ap (λ (z : List ℕ). guard_lines h ++ z) (lines-append hs g) ∙ sym (append_assoc (guard_lines h) (all_lines hs) (guard_lines g))

-- ---- rows that are stored

module _ (ns : List ℕ) (k i t p : ℕ) where
  stored_other : (j : ℕ) → j < 3 * k → get_or (stored ns k i t p) j 0 ≡ get_or ns j 0
  stored_other j h =
      get_or-set_other (set (set ns (3 * k) i) (3 * k + 1) t) (3 * k + 2) j p 0 (λ e. omega arith)
      ∙ get_or-set_other (set ns (3 * k) i) (3 * k + 1) j t 0 (λ e. omega arith)
      ∙ get_or-set_other ns (3 * k) j i 0 (λ e. omega arith)

  pub stored-long : length (stored ns k i t p) ≡ length ns
  stored-long =
      length-set (set (set ns (3 * k) i) (3 * k + 1) t) (3 * k + 2) p ∙ length-set (set ns (3 * k) i) (3 * k + 1) t
      ∙ length-set ns (3 * k) i

  -- Those before keep their lines,
  lines-before : (n : ℕ) → n ≤ k → lines_up_to (stored ns k i t p) n ≡ lines_up_to ns n
  unfolding lines_up_to
  lines-before zero h = refl
  lines-before (suc n) h =
      rw (
        lines-before n (omega arith),
        stored_other (3 * n) (omega arith),
        stored_other (3 * n + 1) (omega arith),
        stored_other (3 * n + 2)
            (omega arith),
      )

  -- and behind them its own stand.
  pub lines_stored : 3 * k + 2 < length ns → lines_up_to (stored ns k i t p) (suc k) ≡ lines_up_to ns k ++ guard_lines_by i t p
  unfolding lines_up_to
  lines_stored room =
      let first = set ns (3 * k) i in
      let second = set first (3 * k + 1) t in
      let at-0 : get_or (stored ns k i t p) (3 * k) 0 ≡ i =
      get_or-set_other second (3 * k + 2) (3 * k) p 0 (λ e. omega arith) ∙ get_or-set_other first (3 * k + 1) (3 * k) t 0 (λ e. omega arith)
      ∙ get_or-set_same ns (3 * k) i 0 (omega arith) in
      let at_1 : get_or (stored ns k i t p) (3 * k + 1) 0 ≡ t =
      get_or-set_other second (3 * k + 2) (3 * k + 1) p 0 (λ e. omega arith)
      ∙ get_or-set_same first (3 * k + 1) t 0 (omega (arith, length-set ns (3 * k) i)) in
      let at-2 : get_or (stored ns k i t p) (3 * k + 2) 0 ≡ p =
      get_or-set_same second (3 * k + 2) p 0 (omega (arith, length-set first (3 * k + 1) t, length-set ns (3 * k) i)) in
      rw (lines-before k (omega arith), at-0, at_1, at-2)
