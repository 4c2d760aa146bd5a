-- A walk over the segments: it starts, goes a segment further, and ends with the outcome.
use mathlib.Core.Bool.{false}
use mathlib.Core.List.{List, [], ◌∷◌}
use mathlib.Core.Logic.{◌⊎◌, inl, inr}
use mathlib.Core.Path.{◌≡◌, refl, sym, ap, ap₂, subst, ◌∙◌}
use native.Mathlib.Nat.{sub-zero}
use native.Mathlib.Omega.{arith}
use borrow.Author.Tests.{leb-false}
use lib.ListN.{length, get_or, set, drop, length-drop, length-set}
use Prim.Native.Nat.{ℕ, zero, suc, ◌+◌, ◌-◌, ◌%◌, ◌≤◌, ◌<◌}
use Rattle.std.specs.Prelude.{Option, Some, None}
use Rattle.demand.specs.Limits.{tasks_most, handlers_most, ticks_most}
use Rattle.demand.specs.Refusals.{InRange}
use Rattle.demand.specs.Rows.{Row, tasks_of, handlers_of}
use Rattle.segments.specs.Given.{Who, nobody, handler, task_ticks, handler_ticks}
use Rattle.segments.specs.Inside.{cond, Outcome, fine, broken, piece_then, judge, tick_told}
use Rattle.segments.specs.Inside.{places_most, who_at, place_of, piece_broken, segment_broken}
use Rattle.segments.specs.Inside.{Ready, Counted, Walked}
use Rattle.segments.specs.Promise.{unknown, disordered}
use Rattle.segments.specs.Segments.{Seg, who_of, segment_width, segments_of, InOrder, at, Agrees}
use Rattle.segments.proofs.Walks.Carried.{piece-same, counted-gap, counted-segment}
use Rattle.segments.proofs.Pieces.Counts.{Steady}
use Rattle.segments.proofs.Walks.Lent.{Fits, ordered-cons, ordered-in, segments-short}
use Rattle.segments.proofs.Looks.Figures.{cond-none, cond-some}
use Rattle.segments.proofs.Pieces.Order.{gap-steady, seg-steady, rest-agrees}
use Rattle.segments.proofs.Refusals.{Answered}
use Rattle.segments.proofs.Looks.Stretches.{who-task, who-handler, who-nobody, after-fine, after-broken, told-some, told-none}
use Rattle.verdict.proofs.Readable.{readable-in-range, readable-common}

-- ---- a piece, from the number that tells its outcome

module _ (ts hs : List Row) (σ : ℕ → Who) (given : List ℕ) (p a b : ℕ) (counted : Counted ts hs σ given a) (next : Outcome) where
  -- 0: what comes next is told.
  pub piece-then-fine : piece_broken ts hs given p a b ≡ 0 → piece_then ts hs σ (who_at p) a b next ≡ next
  piece-then-fine e = after-fine _ _ b next (sym (piece-same ts hs σ given p a b counted) ∙ e)

  -- Else the tick.
  pub piece-then-broken : (z : ℕ) → piece_broken ts hs given p a b ≡ suc z → piece_then ts hs σ (who_at p) a b next ≡ broken z
  piece-then-broken z e = after-broken _ _ b next z (sym (piece-same ts hs σ given p a b counted) ∙ e)

-- Two numbers told one after the other.
both-fine : (g r : ℕ) → cond g r g ≡ 0 → (g ≡ 0) × (r ≡ 0)
both-fine zero r e = (refl, e)
both-fine (suc g) r e = absurd (omega arith)

one-broken : (g r z : ℕ) → cond g r g ≡ suc z → ((g ≡ 0) × (r ≡ suc z)) ⊎ (g ≡ suc z)
one-broken zero r z e = inl (refl, e)
one-broken (suc g) r z e = inr e

-- ---- the place of a segment's row

-- Who stands there is the row that is meant.
pub place-who : (n m kind row : ℕ) → n ≤ tasks_most → m ≤ handlers_most → unknown n m (who_of kind row) ≡ false
    → (row < tasks_most) × (who_at (place_of kind row) ≡ who_of kind row) × (place_of kind row < places_most)
place-who n m zero row hn hm e =
    let row_in : row < n = leb-false n row e in
    (omega arith, who-task row (omega arith), omega arith)
place-who n m (suc zero) row hn hm e =
    let row_in : row < m = leb-false m row e in
    let back : tasks_most + row - tasks_most ≡ row = omega arith in
    (omega arith, who-handler (tasks_most + row) (omega arith) (omega arith) ∙ ap handler back, omega arith)
place-who n m (suc (suc kind)) row hn hm e = absurd (let z : ◌≡◌ {A = ℕ} 0 1 = cc in omega arith)

-- A row of the table stands at its place among its kind.
pub known-task : (n m kind row : ℕ) → unknown n m (who_of kind row) ≡ false → place_of kind row < tasks_most → place_of kind row < n
known-task n m zero row e l = leb-false n row e
known-task n m (suc kind) row e l = absurd (omega arith)

-- The same of a handler.
pub known-handler : (n m kind row : ℕ) → n ≤ tasks_most → unknown n m (who_of kind row) ≡ false → tasks_most ≤ place_of kind row
    → place_of kind row - tasks_most < m
known-handler n m zero row hn e l = absurd (omega (arith, leb-false n row e))
known-handler n m (suc zero) row hn e l = omega (arith, leb-false m row e)
known-handler n m (suc (suc kind)) row hn e l = absurd (let z : ◌≡◌ {A = ℕ} 0 1 = cc in omega arith)

-- Nobody stands behind all places.
pub ready-gap : (t h given : List ℕ) (p a : ℕ) → Ready t h given p a → Ready t h given places_most a
ready-gap t h given p a ready = record {
  range = ready.range;
  counts = ready.counts;
  task = λ l. absurd (omega (arith, l));
  handler = λ l m. absurd (omega (arith, m));
  start = ready.start;
}

-- The outcome of a gap and a segment, from those of the two.
module _ (ts hs : List Row) (given : List ℕ) (p a from to : ℕ) where
  -- The gap is broken,
  pub over-gap : (z : ℕ) → Some z ≡ tick_told (piece_broken ts hs given places_most a from) → Some z ≡ tick_told (segment_broken ts hs given p a from to)
  over-gap z e =
      let gap : piece_broken ts hs given places_most a from ≡ suc z = told-some _ z e in
      e ∙ sym (ap tick_told (cond-some (piece_broken ts hs given places_most a from) (piece_broken ts hs given p from to) _ (omega (arith, gap))))

  -- or the segment tells.
  pub over-segment : (r : Option ℕ) → None ≡ tick_told (piece_broken ts hs given places_most a from) → r ≡ tick_told (piece_broken ts hs given p from to)
      → r ≡ tick_told (segment_broken ts hs given p a from to)
  over-segment r none er =
      er ∙ sym (ap tick_told (cond-none (piece_broken ts hs given places_most a from) (piece_broken ts hs given p from to) _ (told-none _ none)))

-- Counts that nothing was added to.
unfoldable pub zeros : ℕ → List ℕ
zeros zero = []
zeros (suc n) = 0 ∷ zeros n

zeros-at : (n p : ℕ) → get_or (zeros n) p 0 ≡ 0
unfolding zeros
zeros-at zero p = refl
zeros-at (suc n) zero = refl
zeros-at (suc n) (suc p) = zeros-at n p

zeros-length : (n : ℕ) → length (zeros n) ≡ n
unfolding zeros
zeros-length zero = refl
zeros-length (suc n) = ap suc (zeros-length n)

-- ---- the walk

module _ (t h s : List ℕ) (L : ℕ) (ok : Answered t h s L) where
  abbrev ts : List Row
  ts = tasks_of t

  abbrev hs : List Row
  hs = handlers_of h

  abbrev σ : ℕ → Who
  σ = at (segments_of s)

  range : InRange ts hs
  range = readable-in-range t h ok.readable

  -- The span is within the longest interval.
  pub span-most : L ≤ ticks_most
  span-most = omega (arith, ok.most, readable-common t h ok.readable)

  -- It starts with nothing given.
  pub walked_start : Walked t h s L (zeros places_most) 0 0
  unfolding task_ticks handler_ticks
  walked_start = record {
    same = refl;
    ordered = ok.ordered;
    agrees = λ u l g. refl;
    whole = ap (λ (n : ℕ). n % segment_width) (sub-zero (length s)) ∙ ok.whole;
    within = omega arith;
    places = zeros-length places_most;
    counted =
        record {
          tasks = λ m l. zeros-at places_most m;
          handlers = λ m l. zeros-at places_most (tasks_most + m);
          most = λ p. omega (arith, zeros-at places_most p);
        };
    clock = omega arith;
  }

  module _ (given : List ℕ) (a i : ℕ) (so : Walked t h s L given a i) where
    -- A segment is left where a number is.
    pub segment-left : i < length s → i + segment_width ≤ length s
    segment-left l = omega (arith, so.whole, so.within)

    -- At the end: the gap to the span's end.
    module _ (l : length s ≤ i) where
      ended : judge ts hs σ L 0 (segments_of s) ≡ piece_then ts hs σ (who_at places_most) a L fine
      unfolding judge
      ended =
          let none : segments_of (drop i s) ≡ [] = segments-short (drop i s) (omega (arith, length-drop i s)) in
          sym so.same ∙ ap (judge ts hs σ L a) none
          ∙ ap (λ (w : Who). piece_then ts hs σ w a L fine) (sym (who-nobody places_most (omega arith)))

      -- Nothing is broken in it,
      pub end-fine : piece_broken ts hs given places_most a L ≡ 0 → judge ts hs σ L 0 (segments_of s) ≡ fine
      end-fine e = ended ∙ piece-then-fine ts hs σ given places_most a L so.counted fine e

      -- or its first broken tick is told.
      pub end-broken : (z : ℕ) → piece_broken ts hs given places_most a L ≡ suc z → judge ts hs σ L 0 (segments_of s) ≡ broken z
      end-broken z e = ended ∙ piece-then-broken ts hs σ given places_most a L so.counted fine z e

    -- A segment further.
    module _ (seg : Seg) (rest : List Seg) (e : segments_of (drop i s) ≡ seg ∷ rest) where
      -- It is in its place.
      pub fits : Fits (length ts) (length hs) L a seg
      fits = (ordered-cons (length ts) (length hs) L a seg rest (rw e at so.ordered)).0

      follows : disordered (length ts) (length hs) L seg.to rest ≡ false
      follows = (ordered-cons (length ts) (length hs) L a seg rest (rw e at so.ordered)).1

      in_order : InOrder a (seg ∷ rest)
      in_order = (ordered-in (length ts) (length hs) L a (seg ∷ rest) (rw e at so.ordered)).0

      agree : Agrees σ (seg ∷ rest) a L
      agree = subst (λ (ss : List Seg). Agrees σ ss a L) e so.agrees

      gap : Steady σ nobody a seg.from
      gap = gap-steady σ L seg rest a in_order (omega (arith, fits.some, fits.within)) agree

      running : Steady σ seg.who seg.from seg.to
      running = seg-steady σ L seg rest a in_order fits.within agree

      at_from : Counted ts hs σ given seg.from
      at_from = counted-gap ts hs σ given a seg.from so.counted fits.later gap

      module _ (p : ℕ) (who : who_at p ≡ seg.who) where
        abbrev then : Outcome
        then = judge ts hs σ L seg.to rest

        opened : judge ts hs σ L 0 (segments_of s)
            ≡ piece_then ts hs σ (who_at places_most) a seg.from (piece_then ts hs σ (who_at p) seg.from seg.to then)
        unfolding judge
        opened =
            sym so.same
            ∙ ap (judge ts hs σ L a) e
            ∙ ap₂ (λ (v w : Who). piece_then ts hs σ v a seg.from (piece_then ts hs σ w seg.from seg.to then))
            (sym (who-nobody places_most (omega arith))) (sym who)

        -- Broken in the gap or in the segment,
        pub turn-broken : (z : ℕ) → segment_broken ts hs given p a seg.from seg.to ≡ suc z
            → judge ts hs σ L 0 (segments_of s) ≡ broken z
        turn-broken z told = opened ∙ go (one-broken _ _ z told)
          where
            go : ((piece_broken ts hs given places_most a seg.from ≡ 0) × (piece_broken ts hs given p seg.from seg.to ≡ suc z))
                ⊎ (piece_broken ts hs given places_most a seg.from ≡ suc z)
                → piece_then ts hs σ (who_at places_most) a seg.from (piece_then ts hs σ (who_at p) seg.from seg.to then) ≡ broken z
            go (inl both) =
                piece-then-fine ts hs σ given places_most a seg.from so.counted _ both.0
                ∙ piece-then-broken ts hs σ given p seg.from seg.to at_from then z both.1
            go (inr first) = piece-then-broken ts hs σ given places_most a seg.from so.counted _ z first

        -- or in neither: the walk goes on behind it.
        pub walked-turn : rest ≡ segments_of (drop (i + segment_width) s) → i + segment_width ≤ length s → p < places_most
            → segment_broken ts hs given p a seg.from seg.to ≡ 0
            → Walked t h s L (set given p (get_or given p 0 + (seg.to - seg.from))) seg.to (i + segment_width)
        walked-turn left within place told =
            let both = both-fine _ _ told in
            let fine-on : judge ts hs σ L 0 (segments_of s) ≡ then =
            opened
            ∙ piece-then-fine ts hs σ given places_most a seg.from so.counted _ both.0
            ∙ piece-then-fine ts hs σ given p seg.from seg.to at_from then both.1 in
            record {
              same = ap (judge ts hs σ L seg.to) (sym left) ∙ sym fine-on;
              ordered = subst (λ (ss : List Seg). disordered (length ts) (length hs) L seg.to ss ≡ false) left follows;
              agrees = subst (λ (ss : List Seg). Agrees σ ss seg.to L) left (rest-agrees σ L seg rest a in_order agree);
              whole = omega (arith, so.whole, so.within);
              within = within;
              places = length-set given p _ ∙ so.places;
              counted =
                  counted-segment ts hs σ given seg.from seg.to at_from (omega (arith, fits.some)) p (omega (arith, so.places))
                  range.tasks-most
                  range.handlers-most (subst (λ (w : Who). Steady σ w seg.from seg.to) (sym who) running);
              clock = fits.within;
            }
