-- What the judge answers to our own segments: that it accepts them after a yes, and after a no names the interval that the sheet names.
use mathlib.Core.Bool.{false}
use mathlib.Core.List.{List, []}
use mathlib.Core.Logic.{◌⊎◌, inl, inr}
use mathlib.Core.Path.{◌≡◌, sym, ap, subst, ◌∙◌}
use native.Mathlib.Omega.{arith}
use borrow.Author.Tests.{le-ltb, ne_eqb}
use Prim.Native.Nat.{ℕ, ◌≤◌, ◌<◌}
use lib.ListN.{length}
use Rattle.demand.proofs.Divide.{le-or-lt}
use Rattle.demand.specs.Rows.{Row, tasks_of, handlers_of}
use Rattle.own_segments.proofs.Fine.{own-accepted, own-broken}
use Rattle.own_segments.proofs.Known.{own-readable-by}
use Rattle.own_segments.proofs.Lists.{numbers-back}
use Rattle.own_segments.proofs.Promise.{own-readable}
use Rattle.own_segments.specs.Drawn.{numbers_of}
use Rattle.own_segments.specs.Fine.{JudgedFine, JudgedLate}
use Rattle.own_segments.specs.Promise.{own_refusal, own_segments}
use Rattle.segments.proofs.Accepting.{accepted-sound}
use Rattle.segments.proofs.Refusals.{answered, refused_none}
use Rattle.segments.specs.Given.{Who}
use Rattle.segments.specs.Promise.{segments_most, span_outside, judge_refusal, Figures, Word}
use Rattle.segments.specs.Promise.{JudgeSays, Says, SaysBy, figures, accepted_of, broken_of}
use Rattle.segments.specs.Promise.Word.{accepted, broken, refused}
use Rattle.segments.specs.Rules.{Accepted, FirstBroken}
use Rattle.segments.specs.Segments.{segments_of, at}
use Rattle.verdict.specs.Promise as sheet

-- The first tick at which a rule is broken is one.
first-unique : (ts hs : List Row) (σ : ℕ → Who) (L y z : ℕ) → FirstBroken ts hs σ L y → FirstBroken ts hs σ L z → y ≡ z
first-unique ts hs σ L y z f g = go (le-or-lt y z) (le-or-lt z y)
  where
    go : (y ≤ z) ⊎ (z < y) → (z ≤ y) ⊎ (y < z) → y ≡ z
    go (inl l) (inl m) = omega arith
    go (inl l) (inr m) = absurd (g.before y m f.here)
    go (inr l) m = absurd (f.before z l g.here)

module _ (t h : List ℕ) (L : ℕ) (ready : own_refusal t h L ≡ 0) (few : length (own_segments t h L) ≤ segments_most) where
  inside : span_outside t h L ≡ false
  unfolding own_refusal
  inside =
      let a = answered t h [] L ready in
      rw (ne_eqb L 0 (λ z. omega (arith, a.least)), le-ltb _ L a.most)

  -- The judge refuses nothing.
  not-refused : judge_refusal t h (numbers_of (own_segments t h L)) L ≡ 0
  not-refused =
      let r = own-readable t h L ready in
      sym (refused_none t h (numbers_of (own_segments t h L)) L r.readable (own-readable-by t h r.table L few) inside)

  read_back : at (segments_of (numbers_of (own_segments t h L))) ≡ at (own_segments t h L)
  read_back = ap at (numbers-back (own_segments t h L))

  by-accepted : Accepted (tasks_of t) (handlers_of h) (at (own_segments t h L)) L → (g : Figures) (w : Word)
      → SaysBy w t h (numbers_of (own_segments t h L)) L g → g ≡ accepted_of
  unfolding SaysBy
  by-accepted acc g accepted says = says.figures
  by-accepted acc g broken says =
      absurd
      (accepted-sound (tasks_of t) (handlers_of h) _ L g.tick
      (subst (λ (σ : ℕ → Who). Accepted (tasks_of t) (handlers_of h) σ L) (sym read_back) acc) says.first.here)
  by-accepted acc g refused says = absurd (omega (arith, says.unanswered, not-refused))

  by-broken : (z : ℕ) → FirstBroken (tasks_of t) (handlers_of h) (at (own_segments t h L)) L z → (g : Figures) (w : Word)
      → SaysBy w t h (numbers_of (own_segments t h L)) L g → g ≡ broken_of z
  unfolding SaysBy
  by-broken z f g accepted says =
      absurd
      (accepted-sound (tasks_of t) (handlers_of h) (at (own_segments t h L)) L z
      (subst (λ (σ : ℕ → Who). Accepted (tasks_of t) (handlers_of h) σ L) read_back says.accepted) f.here)
  by-broken z f g broken says =
      says.figures
      ∙ ap broken_of
      (first-unique (tasks_of t) (handlers_of h) (at (own_segments t h L)) L g.tick z
      (subst (λ (σ : ℕ → Who). FirstBroken (tasks_of t) (handlers_of h) σ L g.tick) read_back says.first) f)
  by-broken z f g refused says = absurd (omega (arith, says.unanswered, not-refused))

pub judged-fine : JudgedFine
unfolding JudgeSays Says
judged-fine t h L r a says word ready few judged =
    by-accepted t h L ready few (own-accepted t h L r says word ready) (figures a) (figures a).word judged

pub judged-late : JudgedLate
unfolding JudgeSays Says
judged-late t h L r a says word ready few within judged =
    by-broken t h L ready few (sheet.figures r).interval (own-broken t h L r says word ready within) (figures a) (figures a).word judged
