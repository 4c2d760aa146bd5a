-- Segments of a lent list, read as the code reads them, and what their order says.
use mathlib.Core.Bool.{Bool, true, false, ◌||◌}
use mathlib.Core.List.{List, [], ◌∷◌}
use mathlib.Core.Path.{◌≡◌, refl, sym, ap, ◌∙◌}
use native.Mathlib.Nat.{add-zero}
use native.Mathlib.Omega.{arith}
use borrow.Author.Tests.{ltb-false, leb-false}
use lib.Dec.{leb, ltb}
use lib.ListN.{length, get_or, drop, length-drop}
use lib.Seq.{get_or-drop, drop-drop}
use Prim.Native.Nat.{ℕ, zero, suc, ◌+◌, ◌≤◌, ◌<◌}
use Rattle.demand.proofs.Refusals.{neither}
use Rattle.segments.specs.Given.{nobody}
use Rattle.demand.specs.Limits.{tasks_most}
use Rattle.segments.specs.Inside.{place_of}
use Rattle.segments.specs.Promise.{unknown, misplaced, disordered}
use Rattle.segments.specs.Segments.{Seg, who_of, segment_width, segments_of, InOrder}
use Rattle.segments.proofs.Says.{Ends}

abbrev seg_at : List ℕ → Seg
seg_at u = record { who = who_of (get_or u 0 0) (get_or u 1 0); from = get_or u 2 0; to = get_or u 3 0 }

-- The segment at the head.
head-segment : (u : List ℕ) → segment_width ≤ length u → segments_of u ≡ seg_at u ∷ segments_of (drop segment_width u)
unfolding segments_of
head-segment [] h = absurd (omega arith)
head-segment (k ∷ []) h = absurd (omega arith)
head-segment (k ∷ r ∷ []) h = absurd (omega arith)
head-segment (k ∷ r ∷ f ∷ []) h = absurd (omega arith)
head-segment (k ∷ r ∷ f ∷ t ∷ u) h = refl

-- The segment whose first number stands at i, from the numbers in hand.
pub segment-read : (s : List ℕ) (i kind row from to : ℕ) → i + segment_width ≤ length s
    → kind ≡ get_or s i 0 → row ≡ get_or s (i + 1) 0 → from ≡ get_or s (i + 2) 0 → to ≡ get_or s (i + 3) 0
    → segments_of (drop i s) ≡ record { who = who_of kind row; from = from; to = to } ∷ segments_of (drop (i + segment_width) s)
segment-read s i kind row from to h ek er ef et =
    let zero-th : get_or (drop i s) 0 0 ≡ kind = get_or-drop i s 0 0 ∙ ap (λ (n : ℕ). get_or s n 0) (add-zero i) ∙ sym ek in
    let first : get_or (drop i s) 1 0 ≡ row = get_or-drop i s 1 0 ∙ sym er in
    let second : get_or (drop i s) 2 0 ≡ from = get_or-drop i s 2 0 ∙ sym ef in
    let third : get_or (drop i s) 3 0 ≡ to = get_or-drop i s 3 0 ∙ sym et in
    let here : segments_of (drop i s) ≡ seg_at (drop i s) ∷ segments_of (drop segment_width (drop i s)) =
    head-segment (drop i s) (omega (arith, length-drop i s)) in
    here ∙ (rw (zero-th, first, second, third, drop-drop segment_width i s) refl)

-- Fewer numbers than a segment has are left: none is.
pub segments-short : (u : List ℕ) → length u < segment_width → segments_of u ≡ []
unfolding segments_of
segments-short [] h = refl
segments-short (k ∷ []) h = refl
segments-short (k ∷ r ∷ []) h = refl
segments-short (k ∷ r ∷ f ∷ []) h = refl
segments-short (k ∷ r ∷ f ∷ t ∷ u) h = absurd (omega arith)

-- ---- order

-- What a segment that is not misplaced says.
pub record Fits (n m L a : ℕ) (s : Seg) : Type 0 where
  pub known : unknown n m s.who ≡ false
  pub later : a ≤ s.from
  pub some : s.from < s.to
  pub within : s.to ≤ L

-- None of its tests holds.
pub not-misplaced : (n m L a : ℕ) (s : Seg) → misplaced n m L a s ≡ false → Fits n m L a s
not-misplaced n m L a s e =
    let three = neither (unknown n m s.who || ltb s.from a || leb s.to s.from) (ltb L s.to) e in
    let two = neither (unknown n m s.who || ltb s.from a) (leb s.to s.from) three.0 in
    let one = neither (unknown n m s.who) (ltb s.from a) two.0 in
    record {
      known = one.0;
      later = ltb-false s.from a one.1;
      some = leb-false s.to s.from two.1;
      within = ltb-false L s.to three.1;
    }

-- Of a list that is in order: its first segment fits, and the others follow.
pub ordered-cons : (n m L a : ℕ) (s : Seg) (ss : List Seg) → disordered n m L a (s ∷ ss) ≡ false
    → Fits n m L a s × (disordered n m L s.to ss ≡ false)
unfolding disordered
ordered-cons n m L a s ss e =
    let both = neither (misplaced n m L a s) (disordered n m L s.to ss) e in
    (not-misplaced n m L a s both.0, both.1)

-- So all are in time order and end within the span.
pub ordered-in : (n m L a : ℕ) (ss : List Seg) → disordered n m L a ss ≡ false → InOrder a ss × Ends L ss
ordered-in n m L a [] e = (tt, tt)
ordered-in n m L a (s ∷ ss) e =
    let first = ordered-cons n m L a s ss e in
    let rest = ordered-in n m L s.to ss first.1 in
    ((first.0.later, first.0.some, rest.0), (first.0.within, rest.1))

-- ---- the test of order, one segment further

module _ (n m L a : ℕ) (s : Seg) (ss left all : List Seg) (e : left ≡ s ∷ ss)
    (same : disordered n m L a left ≡ disordered n m L 0 all) where
  tests : disordered n m L 0 all ≡ (misplaced n m L a s || disordered n m L s.to ss)
  unfolding disordered
  tests = sym same ∙ ap (disordered n m L a) e

  -- One that is misplaced ends it,
  pub order-stop : misplaced n m L a s ≡ true → true ≡ disordered n m L 0 all
  order-stop t = sym (tests ∙ ap (λ (b : Bool). b || disordered n m L s.to ss) t)

  -- any other leaves it to the rest,
  pub order-turn : misplaced n m L a s ≡ false → disordered n m L s.to ss ≡ disordered n m L 0 all
  order-turn t = sym (tests ∙ ap (λ (b : Bool). b || disordered n m L s.to ss) t)

-- and behind the last none is left.
pub order-end : (n m L a i : ℕ) (s : List ℕ) (all : List Seg) → length s < i + segment_width → i ≤ length s
    → disordered n m L a (segments_of (drop i s)) ≡ disordered n m L 0 all → false ≡ disordered n m L 0 all
unfolding disordered
order-end n m L a i s all h l same = rw (segments-short (drop i s) (omega (arith, length-drop i s))) at same

-- ---- whose segment

-- Another kind is nobody.
pub who-other : (kind row : ℕ) → ¬ (kind ≡ 0) → ¬ (kind ≡ 1) → who_of kind row ≡ nobody
who-other zero row a b = absurd (a refl)
who-other (suc zero) row a b = absurd (b refl)
who-other (suc (suc kind)) row a b = refl

-- A kind other than 0 stands behind the most tasks.
pub place_other : (kind row : ℕ) → ¬ (kind ≡ 0) → tasks_most + row ≡ place_of kind row
place_other zero row a = absurd (a refl)
place_other (suc kind) row a = refl
