-- The verdict's promise allows one answer and no other (01, "How much each statement must say").
use mathlib.Core.List.{List}
use mathlib.Core.Path.{◌≡◌, refl, ap, sym, ◌∙◌}
use native.Mathlib.Omega.{arith}
use Prim.Native.Nat.{ℕ}
use lib.ListN.{get_or}
use Rattle.std.specs.Prelude.{Result, Ok, Err}
use Rattle.demand.proofs.Numbered.{number-once}
use Rattle.demand.specs.Rows.{tasks_of, handlers_of}
use Rattle.demand.specs.declared.refusal.Refusal.{Refusal}
use Rattle.verdict.specs.Loads.{load}
use Rattle.verdict.specs.Promise.{Word, Figures, figures, yes_of, no_of, numbers_of, miss_at, SaysFits, SaysMisses, SaysRefused, SaysBy, Says, VerdictSays}
use Rattle.verdict.specs.Promise.Word.{fits, misses, refused}
use Rattle.verdict.specs.Unique.{VerdictUnique}
use Rattle.verdict.specs.declared.Answer.{Answer}
use Rattle.verdict.specs.declared.Answer.TheVariants as answer
use Rattle.verdict.proofs.Lengths.{least-unique, fits-never-fails}
use Rattle.verdict.proofs.YesEnds.{yes-count-once}

-- ---- one set of figures

-- Figures with the same word and the same numbers are the same.
pub figures-same : (f g : Figures) → f.word ≡ g.word → numbers_of f ≡ numbers_of g → f ≡ g
figures-same f g word numbers = λ i. record {
  word = word i;
  code = get_or (numbers i) 0 0;
  interval = get_or (numbers i) 1 0;
  handler = get_or (numbers i) 2 0;
  task = get_or (numbers i) 3 0;
  load = get_or (numbers i) 4 0;
  left = get_or (numbers i) 5 0;
  tested = get_or (numbers i) 6 0;
}

module _ (t h : List ℕ) (f g : Figures) where
  fits-same : SaysFits t h f → SaysFits t h g → f ≡ g
  fits-same a b =
      let ts = tasks_of t in
      let hs = handlers_of h in
      a.figures ∙ ap (yes_of (load ts hs)) (yes-count-once ts hs f.tested g.tested a.count b.count) ∙ sym b.figures

  misses-same : SaysMisses t h f → SaysMisses t h g → f ≡ g
  misses-same a b =
      let ts = tasks_of t in
      let hs = handlers_of h in
      a.figures
      ∙ ap (λ (l : ℕ). no_of (miss_at ts hs l) (load ts hs)) (least-unique ts hs f.interval g.interval a.shortest b.shortest)
      ∙ sym b.figures

  refused-same : SaysRefused t h f → SaysRefused t h g → f ≡ g
  refused-same a b = a.figures ∙ sym b.figures

  -- A table that is readable is not refused, and one that fits does not miss.
  pub fits-or-misses : SaysFits t h f → SaysMisses t h g → ⊥
  fits-or-misses a b = fits-never-fails (tasks_of t) (handlers_of h) g.interval a.passes b.shortest

  pub fits-or-refused : SaysFits t h f → SaysRefused t h g → ⊥
  fits-or-refused a b = omega (arith, a.readable, b.unreadable)

  pub misses-or-refused : SaysMisses t h f → SaysRefused t h g → ⊥
  misses-or-refused a b = omega (arith, a.readable, b.unreadable)

pub says-unique : (t h : List ℕ) (f g : Figures) → Says t h f → Says t h g → f ≡ g
unfolding Says SaysBy
says-unique t h f g = go f.word g.word refl refl
  where
    go : (v w : Word) → f.word ≡ v → g.word ≡ w → SaysBy v t h f → SaysBy w t h g → f ≡ g
    go fits fits p q a b = fits-same t h f g a b
    go fits misses p q a b = absurd (fits-or-misses t h f g a b)
    go fits refused p q a b = absurd (fits-or-refused t h f g a b)
    go misses fits p q a b = absurd (fits-or-misses t h g f b a)
    go misses misses p q a b = misses-same t h f g a b
    go misses refused p q a b = absurd (misses-or-refused t h f g a b)
    go refused fits p q a b = absurd (fits-or-refused t h g f b a)
    go refused misses p q a b = absurd (misses-or-refused t h g f b a)
    go refused refused p q a b = refused-same t h f g a b

-- ---- one answer

-- Answers with the same figures are the same.
pub figures-once : (r s : Result Answer Refusal) → figures r ≡ figures s → r ≡ s
unfolding figures
figures-once (Ok (answer.Fits l n)) (Ok (answer.Fits m o)) e = λ i. Ok (answer.Fits (e i).load (e i).tested)
figures-once (Ok (answer.Fits l n)) (Ok (answer.Misses a m)) e = cc (ap (λ (f : Figures). f.word) e)
figures-once (Ok (answer.Fits l n)) (Err k) e = cc (ap (λ (f : Figures). f.word) e)
figures-once (Ok (answer.Misses a l)) (Ok (answer.Fits m o)) e = cc (ap (λ (f : Figures). f.word) e)
figures-once (Ok (answer.Misses a l)) (Ok (answer.Misses b m)) e =
    λ i. Ok (answer.Misses (record { interval = (e i).interval; handler = (e i).handler; task = (e i).task; left = (e i).left; tested = (e i).tested }) (e i).load)
figures-once (Ok (answer.Misses a l)) (Err k) e = cc (ap (λ (f : Figures). f.word) e)
figures-once (Err k) (Ok (answer.Fits m o)) e = cc (ap (λ (f : Figures). f.word) e)
figures-once (Err k) (Ok (answer.Misses b m)) e = cc (ap (λ (f : Figures). f.word) e)
figures-once (Err k) (Err m) e = ap Err (number-once k m (ap (λ (f : Figures). f.code) e))

pub verdict-unique : VerdictUnique
unfolding VerdictSays
verdict-unique t h r s a b = figures-once r s (says-unique t h (figures r) (figures s) a b)
