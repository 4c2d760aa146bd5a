-- Laws of the refusal of a call: each number where it applies, and what a call without one has.
use mathlib.Core.Bool.{Bool, true, false, ◌||◌}
use mathlib.Core.List.{List, [], ◌∷◌}
use mathlib.Core.Logic.{◌⊎◌, inl, inr}
use mathlib.Core.Path.{◌≡◌, refl, sym, ◌∙◌}
use native.Mathlib.Nat.{eq-zero-or-pos}
use native.Mathlib.Omega.{arith}
use borrow.Author.Tests.{le-ltb, lt-ltb, ltb-false, eqb-false, eq-eqb, ne_eqb}
use lib.Dec.{eqb, ltb}
use lib.ListN.{length}
use Prim.Native.Nat.{ℕ, ◌/◌, ◌%◌, ◌≤◌, ◌<◌}
use Rattle.std.specs.Prelude.{None}
use Rattle.demand.proofs.Numbered.{number-pos}
use Rattle.demand.specs.Multiples.{limited}
use Rattle.demand.specs.Numbered.{number_of}
use Rattle.demand.specs.Refusals.{table_refusal}
use Rattle.demand.specs.Rows.{tasks_of, handlers_of}
use Rattle.demand.specs.Tests.{pick, first_refusal}
use Rattle.demand.proofs.Periods.{limited-none}
use Rattle.demand.proofs.Refusals.{neither}
use Rattle.demand.specs.declared.refusal.Refusal.{Refusal}
use Rattle.segments.specs.Promise.{segments_most, disordered, unreadable, span_outside, judge_tests, judge_refusal}
use Rattle.segments.specs.Segments.{segment_width, segments_of}
use Rattle.verdict.specs.Multiples.{common}
use Rattle.verdict.specs.Promise.{verdict_refusal}
use Rattle.verdict.proofs.Readable.{refused-4, refused-table}

module _ (t h s : List ℕ) (L : ℕ) where
  -- The table's own, then 16, then 17.
  refusal_is : judge_refusal t h s L
      ≡ pick (ltb 0 (verdict_refusal t h)) (verdict_refusal t h) (pick (unreadable t h s L) 16 (pick (span_outside t h L) 17 0))
  unfolding judge_refusal judge_tests first_refusal
  refusal_is = refl

  unreadable-table : 0 < verdict_refusal t h → judge_refusal t h s L ≡ verdict_refusal t h
  unreadable-table some = refusal_is ∙ rw (lt-ltb 0 (verdict_refusal t h) some)

  module _ (readable : verdict_refusal t h ≡ 0) where
    behind : judge_refusal t h s L ≡ pick (unreadable t h s L) 16 (pick (span_outside t h L) 17 0)
    behind = refusal_is ∙ rw (le-ltb 0 (verdict_refusal t h) (omega (arith, readable)))

    -- 16,
    pub refused-16 : unreadable t h s L ≡ true → 16 ≡ judge_refusal t h s L
    refused-16 e = sym (behind ∙ rw e)

    -- then 17,
    pub refused-17 : unreadable t h s L ≡ false → span_outside t h L ≡ true → 17 ≡ judge_refusal t h s L
    refused-17 e f = sym (behind ∙ rw (e, f))

    -- or none.
    pub refused_none : unreadable t h s L ≡ false → span_outside t h L ≡ false → 0 ≡ judge_refusal t h s L
    refused_none e f = sym (behind ∙ rw (e, f))

  -- From what the code has in hand: the table's own,
  pub refused-own : (k : Refusal) → number_of k ≡ table_refusal t h → number_of k ≡ judge_refusal t h s L
  refused-own k e =
      let some = number-pos k in
      let own : verdict_refusal t h ≡ table_refusal t h = refused-table t h (omega (arith, e)) in
      e ∙ sym (unreadable-table (omega (arith, e, own)) ∙ own)

  -- 4, where H is above its limit.
  pub refused-limit : table_refusal t h ≡ 0 → None ≡ limited (common (tasks_of t) (handlers_of h)) → 4 ≡ judge_refusal t h s L
  refused-limit own none =
      let four : verdict_refusal t h ≡ 4 = refused-4 t h own (limited-none (common (tasks_of t) (handlers_of h)) none) in
      sym (unreadable-table (omega (arith, four)) ∙ four)

  -- The test of 17, of the H in hand.
  pub span-read : (m : ℕ) → m ≡ common (tasks_of t) (handlers_of h) → span_outside t h L ≡ (eqb L 0 || ltb m L)
  span-read m e = rw e

  -- ---- a call without a refusal

  pub record Answered : Type 0 where
    pub readable : verdict_refusal t h ≡ 0
    pub ordered : disordered (length (tasks_of t)) (length (handlers_of h)) L 0 (segments_of s) ≡ false
    pub whole : length s % segment_width ≡ 0
    pub few : length s / segment_width ≤ segments_most
    pub least : 0 < L
    pub most : L ≤ common (tasks_of t) (handlers_of h)

  -- No refusal: all of this holds.
  pub answered : judge_refusal t h s L ≡ 0 → Answered
  answered e = go (eq-zero-or-pos (verdict_refusal t h))
    where
      inside : verdict_refusal t h ≡ 0 → unreadable t h s L ≡ false → span_outside t h L ≡ false → Answered
      inside readable a b =
          let two =
          neither (ltb 0 (length s % segment_width) || ltb segments_most (length s / segment_width))
          (disordered (length (tasks_of t)) (length (handlers_of h)) L 0 (segments_of s)) a in
          let one = neither (ltb 0 (length s % segment_width)) (ltb segments_most (length s / segment_width)) two.0 in
          let span = neither (eqb L 0) (ltb (common (tasks_of t) (handlers_of h)) L) b in
          let some : L ≡ 0 → ⊥ = eqb-false L 0 span.0 in
          record {
            readable = readable;
            ordered = two.1;
            whole = omega (arith, ltb-false 0 (length s % segment_width) one.0);
            few = ltb-false segments_most (length s / segment_width) one.1;
            least = omega arith;
            most = ltb-false (common (tasks_of t) (handlers_of h)) L span.1;
          }

      tests : verdict_refusal t h ≡ 0 → (a b : Bool) → unreadable t h s L ≡ a → span_outside t h L ≡ b → Answered
      tests readable true b ea eb = absurd (omega (arith, refused-16 readable ea))
      tests readable false true ea eb = absurd (omega (arith, refused-17 readable ea eb))
      tests readable false false ea eb = inside readable ea eb

      go : (verdict_refusal t h ≡ 0) ⊎ (0 < verdict_refusal t h) → Answered
      go (inl readable) = tests readable (unreadable t h s L) (span_outside t h L) refl refl
      go (inr some) = absurd (omega (arith, unreadable-table some))

-- A list that is not in fours: the table's own refusal, or else 16.
pub torn-refusal : (t h : List ℕ) (L : ℕ)
    → (judge_refusal t h (0 ∷ []) L ≡ pick (eqb (verdict_refusal t h) 0) 16 (verdict_refusal t h)) × (0 < judge_refusal t h (0 ∷ []) L)
torn-refusal t h L = go (eq-zero-or-pos (verdict_refusal t h))
  where
    go : (verdict_refusal t h ≡ 0) ⊎ (0 < verdict_refusal t h)
        → (judge_refusal t h (0 ∷ []) L ≡ pick (eqb (verdict_refusal t h) 0) 16 (verdict_refusal t h)) × (0 < judge_refusal t h (0 ∷ []) L)
    go (inl readable) =
        let sixteen : 16 ≡ judge_refusal t h (0 ∷ []) L = refused-16 t h (0 ∷ []) L readable refl in
        (sym sixteen ∙ (rw (eq-eqb (verdict_refusal t h) 0 readable) refl), omega (arith, sixteen))
    go (inr some) =
        let own : judge_refusal t h (0 ∷ []) L ≡ verdict_refusal t h = unreadable-table t h (0 ∷ []) L some in
        (own ∙ (rw (ne_eqb (verdict_refusal t h) 0 (λ z. omega (arith, z, some))) refl), omega (arith, own))
