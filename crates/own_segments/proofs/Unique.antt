-- The promise allows one answer, and one content of the list.
use mathlib.Core.Bool.{false≢true}
use mathlib.Core.List.{List}
use mathlib.Core.Logic.{◌⊎◌, inl, inr}
use mathlib.Core.Path.{◌≡◌, refl, sym, ap, ap₂, ◌∙◌}
use native.Mathlib.Omega.{arith}
use Prim.Native.Nat.{ℕ, ◌≤◌, ◌<◌}
use Rattle.demand.proofs.Numbered.{number-once}
use Rattle.demand.specs.Numbered.{number_of}
use Rattle.std.specs.Prelude.{Ok, Err}
use Rattle.demand.proofs.Divide.{le-or-lt}
use Rattle.own_segments.specs.Own.{Ending}
use Rattle.own_segments.specs.Promise.{Figures, figures, OwnSays, SaysBy}
use Rattle.own_segments.specs.Unique.{OwnUnique}
use Rattle.own_segments.specs.declared.Answer.TheVariants.{Segments, TooMany}

-- The run ends at one clock.
not-before : (t h : List ℕ) (L e e' : ℕ) → Ending t h L e → Ending t h L e' → e < e' → ⊥
not-before t h L e e' a b l = false≢true (sym (b.going e l) ∙ a.over (omega (arith, b.within)))

pub ending-unique : (t h : List ℕ) (L e e' : ℕ) → Ending t h L e → Ending t h L e' → e ≡ e'
ending-unique t h L e e' a b = go (le-or-lt e e') (le-or-lt e' e)
  where
    go : (e ≤ e') ⊎ (e' < e) → (e' ≤ e) ⊎ (e < e') → e ≡ e'
    go (inl l) (inl m) = omega arith
    go (inl l) (inr m) = absurd (not-before t h L e e' a b m)
    go (inr l) m = absurd (not-before t h L e' e b a l)

pub own-unique : OwnUnique
unfolding OwnSays SaysBy figures
own-unique t h L old new new' (Ok (Segments c e)) (Ok (Segments c' e')) a b =
    let count : c ≡ c' = ap (λ (g : Figures). g.count) a.figures ∙ sym (ap (λ (g : Figures). g.count) b.figures) in
    (ap Ok (ap₂ Segments count (ending-unique t h L e e' a.ending b.ending)), a.laid ∙ sym b.laid)
own-unique t h L old new new' (Ok (Segments c e)) (Ok TooMany) a b = absurd (omega (arith, a.few, b.many))
own-unique t h L old new new' (Ok (Segments c e)) (Err k) a b = absurd (omega (arith, a.answered, b.unanswered))
own-unique t h L old new new' (Ok TooMany) (Ok (Segments c e)) a b = absurd (omega (arith, b.few, a.many))
own-unique t h L old new new' (Ok TooMany) (Ok TooMany) a b = (refl, a.laid ∙ sym b.laid)
own-unique t h L old new new' (Ok TooMany) (Err k) a b = absurd (omega (arith, a.answered, b.unanswered))
own-unique t h L old new new' (Err k) (Ok (Segments c e)) a b = absurd (omega (arith, b.answered, a.unanswered))
own-unique t h L old new new' (Err k) (Ok TooMany) a b = absurd (omega (arith, b.answered, a.unanswered))
own-unique t h L old new new' (Err k) (Err k') a b =
    let number : number_of k ≡ number_of k' = ap (λ (g : Figures). g.code) a.figures ∙ sym (ap (λ (g : Figures). g.code) b.figures) in
    (ap Err (number-once k k' number), a.laid ∙ sym b.laid)
