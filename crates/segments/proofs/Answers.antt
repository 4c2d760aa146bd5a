-- Answers that meet the promise, from what the code has in hand, and that it allows one answer only.
use mathlib.Core.List.{List}
use mathlib.Core.Path.{◌≡◌, refl, sym, ap, ◌∙◌}
use native.Mathlib.Omega.{arith}
use Prim.Native.Nat.{ℕ, ◌<◌}
use Rattle.std.specs.Prelude.{Result, Option, Ok, None, Err, Some}
use Rattle.demand.proofs.Numbered.{number-pos, number-once}
use Rattle.demand.specs.Numbered.{number_of}
use Rattle.demand.specs.Rows.{tasks_of, handlers_of, Positive, Valid}
use Rattle.demand.proofs.Inside.Sizes.{fair-positive}
use Rattle.demand.specs.declared.refusal.Refusal.{Refusal}
use Rattle.segments.specs.Inside.{Outcome, fine, judge}
use Rattle.segments.specs.Inside as inside
use Rattle.segments.specs.Promise.{Word, Figures, figures, broken_of, refusal_of, judge_refusal}
use Rattle.segments.specs.Promise.{SaysAccepted, SaysBroken, SaysBy, Says, JudgeSays}
use Rattle.segments.specs.Promise.Word.{accepted, broken, refused}
use Rattle.segments.specs.Segments.{segments_of, InOrder, at}
use Rattle.segments.specs.Unique.{JudgeUnique}
use Rattle.segments.proofs.Accepting.{accepted-sound, first-once}
use Rattle.segments.proofs.Walks.Lent.{ordered-in}
use Rattle.segments.proofs.Refusals.{Answered, answered}
use Rattle.segments.proofs.Says.{Ends, judge-fine, judge-broken}
use Rattle.verdict.proofs.Readable.{readable-in-range}

module _ (t h s : List ℕ) (L : ℕ) where
  -- A refusal is handed on, by its number,
  pub refused-says : (k : ℕ) → k ≡ judge_refusal t h s L → 0 < k → Says t h s L (refusal_of k)
  unfolding Says SaysBy
  refused-says k e some = record { unanswered = omega (arith, e); figures = ap refusal_of e }

  pub says-refused : (k : Refusal) → number_of k ≡ judge_refusal t h s L → JudgeSays t h s L (Err k)
  unfolding JudgeSays Says SaysBy figures
  says-refused k e = refused-says (number_of k) e (number-pos k)

  module _ (none : judge_refusal t h s L ≡ 0) where
    ok : Answered t h s L
    ok = answered t h s L none

    -- Of a call that is answered: the deadlines of its tasks are from 1 to their periods,
    pub valid : Valid (tasks_of t)
    valid = (readable-in-range t h ok.readable).deadlines

    -- and the periods of its handlers at least 1.
    pub positive : Positive (handlers_of h)
    positive = fair-positive (handlers_of h) (readable-in-range t h ok.readable).handlers

    order : InOrder 0 (segments_of s) × Ends L (segments_of s)
    order = ordered-in _ _ L 0 (segments_of s) ok.ordered

    -- What the walk over the segments tells is what the rules say.
    pub says-accepted : judge (tasks_of t) (handlers_of h) (at (segments_of s)) L 0 (segments_of s) ≡ fine → JudgeSays t h s L (Ok None)
    unfolding JudgeSays Says SaysBy figures
    says-accepted e = record {
      answered = none;
      accepted = judge-fine (tasks_of t) (handlers_of h) valid positive (segments_of s) order.0 L order.1 e;
      figures = refl;
    }

    -- So of a tick at which a rule is broken.
    pub says-broken : (z : ℕ) → judge (tasks_of t) (handlers_of h) (at (segments_of s)) L 0 (segments_of s) ≡ inside.broken z
        → JudgeSays t h s L (Ok (Some z))
    unfolding JudgeSays Says SaysBy figures
    says-broken z e = record {
      answered = none;
      first = judge-broken (tasks_of t) (handlers_of h) valid positive (segments_of s) order.0 L order.1 z e;
      figures = refl;
    }

-- ---- one answer

-- Two figures that the promise allows are the same.
pub says-unique : (t h s : List ℕ) (L : ℕ) (f g : Figures) → Says t h s L f → Says t h s L g → f ≡ g
unfolding Says SaysBy
says-unique t h s L f g = go f.word g.word
  where
    first-same : SaysBroken t h s L f → SaysBroken t h s L g → f ≡ g
    first-same a b =
        a.figures ∙ ap broken_of (first-once (tasks_of t) (handlers_of h) (at (segments_of s)) L f.tick g.tick a.first b.first)
        ∙ sym b.figures

    not-both : (e : Figures) → SaysAccepted t h s L e → (d : Figures) → SaysBroken t h s L d → ⊥
    not-both e a d b = accepted-sound (tasks_of t) (handlers_of h) (at (segments_of s)) L d.tick a.accepted b.first.here

    go : (v w : Word) → SaysBy v t h s L f → SaysBy w t h s L g → f ≡ g
    go accepted accepted a b = a.figures ∙ sym b.figures
    go accepted broken a b = absurd (not-both f a g b)
    go accepted refused a b = absurd (omega (arith, a.answered, b.unanswered))
    go broken accepted a b = absurd (not-both g b f a)
    go broken broken a b = first-same a b
    go broken refused a b = absurd (omega (arith, a.answered, b.unanswered))
    go refused accepted a b = absurd (omega (arith, b.answered, a.unanswered))
    go refused broken a b = absurd (omega (arith, b.answered, a.unanswered))
    go refused refused a b = a.figures ∙ sym b.figures

-- Answers with the same figures are the same.
figures-once : (q r : Result (Option ℕ) Refusal) → figures q ≡ figures r → q ≡ r
unfolding figures
figures-once (Ok None) (Ok None) e = refl
figures-once (Ok None) (Ok (Some x)) e = cc (ap (λ (f : Figures). f.word) e)
figures-once (Ok None) (Err k) e = cc (ap (λ (f : Figures). f.word) e)
figures-once (Ok (Some x)) (Ok None) e = cc (ap (λ (f : Figures). f.word) e)
figures-once (Ok (Some x)) (Ok (Some y)) e = λ j. Ok (Some (e j).tick)
figures-once (Ok (Some x)) (Err k) e = cc (ap (λ (f : Figures). f.word) e)
figures-once (Err k) (Ok None) e = cc (ap (λ (f : Figures). f.word) e)
figures-once (Err k) (Ok (Some y)) e = cc (ap (λ (f : Figures). f.word) e)
figures-once (Err k) (Err l) e = ap Err (number-once k l (ap (λ (f : Figures). f.code) e))

-- So are two answers.
pub judge-unique : JudgeUnique
unfolding JudgeSays
judge-unique t h s L q r a b = figures-once q r (says-unique t h s L (figures q) (figures r) a b)
