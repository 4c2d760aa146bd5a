-- Every step keeps what the reader's place says of the bytes read so far.
use mathlib.Core.Bool.{Bool, true, false}
use mathlib.Core.List.{List, [], ◌∷◌, ◌++◌, append-nil, append_assoc}
use mathlib.Core.Logic.{◌⊎◌, inl, inr}
use mathlib.Core.Path.{◌≡◌, refl}
use native.Mathlib.Omega.{arith}
use Prim.Native.Nat.{ℕ, ◌<◌, ◌≤◌}
use borrow.Author.Tests.{ltb-true, ltb-false, eqb-true}
use lib.Dec.{eqb}
use lib.ListN.{length, get_or, replicate, get_or-replicate, length-replicate, get_or-eq_default}
use Rattle.demand.specs.Tests.{pick}
use Rattle.demand.proofs.Divide.{le-or-lt}
use Rattle.guard_file.specs.Inside.Building.{Reading, added, next, read_from, read_over, unread}
use Rattle.guard_file.specs.Inside.Steps.{fields, after_byte, noted, guard_of}
use Rattle.guard_file.specs.declared.steps.State.{State}
use Rattle.guard_file.specs.declared.steps.State.TheVariants.{Broken, Head, HeadCr, Start, Name, First, Digits, RowCr}
use Rattle.guard_file.specs.declared.words.Kind.TheVariants.{Single, Burst}
use Rattle.guards.specs.declared.Guard.{Guard}
use Rattle.text.proofs.Tests.{by}
use Rattle.guard_file.proofs.Inside.Standing.{Holds, to-broken, to-head, to-head-cr, to_start, to-name, to-letter, to-first, to-empty, to-behind, to-next-row, to-digit, to-digits}

-- What each way of a choice gives.
chosen : (t : Bool) (x y : State) (values : List ℕ) (gs : List Guard) (l : List ℕ) → (t ≡ true → Holds x (noted x values) gs l)
    → (t ≡ false → Holds y (noted y values) gs l) → Holds (pick t x y) (noted (pick t x y) values) gs l
chosen true x y values gs l f g = f refl
chosen false x y values gs l f g = g refl

-- No guard is done where none stood before a CR.
undone : (t : Bool) (st : State) (values : List ℕ) (gs : List Guard) (l : List ℕ) → Holds st values gs l
    → Holds st values (gs ++ pick t [] []) l
undone true st values gs l h = rw append-nil h
undone false st values gs l h = rw append-nil h

pub step_keeps : (st : State) (values : List ℕ) (gs : List Guard) (l : List ℕ) (b : ℕ) → Holds st values gs l
    → Holds (after_byte st b) (noted (after_byte st b) values) (gs ++ added st values b) (l ++ (b ∷ []))
step_keeps Broken values gs l b h = to-broken _ _ _
step_keeps (Head k) values gs l b h = undone (eqb b 10) _ _ _ _
    (chosen _ _ _ _ _ _
    (λ t. chosen _ _ _ _ _ _ (λ e. to-head values gs l b k h (ltb-true _ _ t) (eqb-true _ _ e)) (λ e. to-broken _ _ _))
    (λ t. chosen _ _ _ _ _ _ (λ e. to-head-cr values gs l b k h (ltb-false _ _ t) (eqb-true _ _ e)) (λ e. to-broken _ _ _)))
step_keeps HeadCr values gs l b h =
    undone (eqb b 10) _ _ _ _ (chosen _ _ _ _ _ _ (λ e. to_start values gs l b h (eqb-true _ _ e)) (λ e. to-broken _ _ _))
step_keeps Start values gs l b h = undone (eqb b 10) _ _ _ _
    (chosen _ _ _ _ _ _ (λ e. to-name values gs l b Single h (eqb-true _ _ e))
    (λ n. chosen _ _ _ _ _ _ (λ e. to-name values gs l b Burst h (eqb-true _ _ e)) (λ e. to-broken _ _ _)))
step_keeps (Name kind k) values gs l b h = undone (eqb b 10) _ _ _ _
    (chosen _ _ _ _ _ _
    (λ t. chosen _ _ _ _ _ _ (λ e. to-letter values gs l b kind k h (ltb-true _ _ t) (eqb-true _ _ e)) (λ e. to-broken _ _ _))
    (λ t. chosen _ _ _ _ _ _ (λ e. to-first values gs l b kind k h (ltb-false _ _ t) (eqb-true _ _ e)) (λ e. to-broken _ _ _)))
step_keeps (First kind j) values gs l b h = undone (eqb b 10) _ _ _ _
    (chosen _ _ _ _ _ _
    (λ g. chosen _ _ _ _ _ _ (λ t. to-digit values gs l b kind j h g t) (λ e. to-broken _ _ _))
    (λ g. chosen _ _ _ _ _ _ (λ e. to-empty values gs l b kind j h g (eqb-true _ _ e)) (λ e. to-broken _ _ _)))
step_keeps (Digits kind j v) values gs l b h = undone (eqb b 10) _ _ _ _
    (chosen _ _ _ _ _ _ (λ e. to-behind values gs l b kind j v h (eqb-true _ _ e))
    (λ n. chosen _ _ _ _ _ _ (λ t. to-digits values gs l b kind j v h t) (λ t. to-broken _ _ _)))
step_keeps (RowCr kind) values gs l b h =
    by (λ t. Holds (pick t Start Broken) (noted (pick t Start Broken) values) (gs ++ pick t (guard_of kind values ∷ []) []) (l ++ (b ∷ [])))
    (eqb b 10)
    (λ e. to-next-row values gs l b kind h (eqb-true _ _ e))
    (λ e. to-broken _ _ _)

holds-first : Holds (Head 0) (replicate fields 0) [] []
unfolding Holds
holds-first = (record { long = length-replicate {A = ℕ} fields 0; short = λ i. rw (zeros i) (omega arith) }, refl, omega arith, refl)
  where
    zeros : (i : ℕ) → get_or {A = ℕ} (replicate fields 0) i 0 ≡ 0
    zeros i = go (le-or-lt fields i)
      where
        go : (fields ≤ i) ⊎ (i < fields) → get_or {A = ℕ} (replicate fields 0) i 0 ≡ 0
        go (inl past) =
            let beyond : length {A = ℕ} (replicate fields 0) ≤ i = omega (arith, length-replicate {A = ℕ} fields 0) in
            get_or-eq_default {A = ℕ} (replicate fields 0) 0 beyond
        go (inr short) = get_or-replicate {A = ℕ} fields i 0 0 short

holds-from : (w : Reading) (l bs : List ℕ) → Holds w.st w.values w.guards l
    → Holds (read_from w bs).st (read_from w bs).values (read_from w bs).guards (l ++ bs)
holds-from w l [] h = rw append-nil h
holds-from w l (b ∷ bs) h = rw append_assoc at (holds-from (next w b) (l ++ (b ∷ [])) bs (step_keeps w.st w.values w.guards l b h))

-- After any bytes the state holds of them.
pub holds : (bs : List ℕ) → Holds (read_over bs).st (read_over bs).values (read_over bs).guards bs
holds bs = holds-from unread [] bs holds-first
