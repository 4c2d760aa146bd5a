-- What a turn of the walk needs and leaves, of the segment that the code holds.
use mathlib.Core.List.{List, ◌∷◌}
use mathlib.Core.Path.{◌≡◌, refl, sym, ap, subst, ◌∙◌}
use native.Mathlib.Omega.{arith}
use lib.ListN.{length, get_or, set, drop}
use Prim.Native.Nat.{ℕ, ◌+◌, ◌-◌, ◌≤◌, ◌<◌}
use Rattle.std.specs.Prelude.{Option, Ok, None, Some}
use Rattle.demand.specs.Limits.{tasks_most, ticks_most}
use Rattle.demand.specs.Refusals.{InRange}
use Rattle.demand.specs.Rows.{tasks_of, handlers_of}
use Rattle.segments.proofs.Looks.Stretches.{told-some, told-none}
use Rattle.segments.specs.Inside.{places_most, who_at, place_of, seg_of, piece_broken, segment_broken, Ready, Walked, tick_told}
use Rattle.segments.specs.Promise.{judge_refusal, JudgeSays}
use Rattle.segments.specs.Segments.{who_of, segment_width, segments_of}
use Rattle.segments.specs.declared.segment.Segment.{Segment}
use Rattle.segments.proofs.Answers.{says-accepted, says-broken}
use Rattle.segments.proofs.Walks.Lent.{Fits}
use Rattle.segments.proofs.Refusals.{Answered, answered}
use Rattle.segments.proofs.Walks.Steps.{span-most, walked_start, end-fine, end-broken, fits}
use Rattle.segments.proofs.Walks.Steps.{turn-broken, walked-turn, place-who, known-task, known-handler, zeros}
use Rattle.verdict.proofs.Readable.{readable-in-range}

module _ (t h s : List ℕ) (L : ℕ) (none : judge_refusal t h s L ≡ 0) where
  ok : Answered t h s L
  ok = answered t h s L none

  range : InRange (tasks_of t) (handlers_of h)
  range = readable-in-range t h ok.readable

  -- Before the first segment.
  pub start : Walked t h s L (zeros places_most) 0 0
  start = walked_start t h s L ok

  module _ (given : List ℕ) (a i : ℕ) (so : Walked t h s L given a i) where
    -- The gap to the span's end.
    pub end-ready : Ready t h given places_most a × (L ≤ ticks_most)
    end-ready =
        let most : L ≤ ticks_most = span-most t h s L ok in (
          record {
            range = range;
            counts = λ p. omega (arith, so.counted.most p, so.clock);
            task = λ l. absurd (omega (arith, l));
            handler = λ l m. absurd (omega (arith, m));
            start = omega (arith, so.clock);
          },
          most,
        )

    -- What is told of it is the answer: broken there, or accepted.
    pub end-says : length s ≤ i → (r : Option ℕ) → r ≡ tick_told (piece_broken (tasks_of t) (handlers_of h) given places_most a L) → JudgeSays t h s L (Ok r)
    end-says l (Some z) e = says-broken t h s L none z (end-broken t h s L ok given a i so l z (told-some _ z e))
    end-says l None e = says-accepted t h s L none (end-fine t h s L ok given a i so l (told-none _ e))

    -- A segment further.
    module _ (next : Segment) (e : segments_of (drop i s) ≡ seg_of next ∷ segments_of (drop (i + segment_width) s)) where
      rest-is : Fits (length (tasks_of t)) (length (handlers_of h)) L a (seg_of next)
      rest-is = fits t h s L ok given a i so (seg_of next) (segments_of (drop (i + segment_width) s)) e

      where-is : (next.row < tasks_most) × (who_at (place_of next.kind next.row) ≡ who_of next.kind next.row)
          × (place_of next.kind next.row < places_most)
      where-is =
          place-who (length (tasks_of t)) (length (handlers_of h)) next.kind next.row range.tasks-most range.handlers-most
          rest-is.known

      -- Its row is one of few,
      pub row-few : next.row < tasks_most
      row-few = where-is.0

      module _ (p : ℕ) (ep : p ≡ place_of next.kind next.row) where
        -- whose place is one of all places.
        pub place_in : p < places_most
        place_in = rw ep where-is.2

        who-is : who_at p ≡ (seg_of next).who
        who-is = ap who_at ep ∙ where-is.1

        -- The gap and the segment can be looked at,
        pub turn-ready : Ready t h given p a × (next.from ≤ ticks_most) × (next.to ≤ ticks_most)
        turn-ready =
            let most : L ≤ ticks_most = span-most t h s L ok in (
              record {
                range = range;
                counts = λ q. omega (arith, so.counted.most q, so.clock);
                task = λ l. (rw ep (known-task _ _ next.kind next.row rest-is.known (rw ep at l)));
                handler = λ l m. (rw ep (known-handler _ _ next.kind next.row range.tasks-most rest-is.known (rw ep at l)));
                start = omega (arith, so.clock);
              },
              omega (arith, rest-is.some, rest-is.within),
              omega (arith, rest-is.within),
            )

        -- and its ticks be added.
        pub turn-grows : (next.from ≤ next.to) × (get_or given p 0 + (next.to - next.from) ≤ ticks_most)
        turn-grows =
            let most : L ≤ ticks_most = span-most t h s L ok in
            (omega (arith, rest-is.some), omega (arith, so.counted.most p, rest-is.later, rest-is.some, rest-is.within))

        pub turn-says-broken : (z : ℕ) → Some z ≡ tick_told (segment_broken (tasks_of t) (handlers_of h) given p a next.from next.to) → JudgeSays t h s L (Ok (Some z))
        turn-says-broken z e' =
            says-broken t h s L none z (turn-broken t h s L ok given a i so (seg_of next) _ e p who-is z (told-some _ z e'))

        pub turn-goes : (j : ℕ) → j ≡ i + segment_width → j ≤ length s → None ≡ tick_told (segment_broken (tasks_of t) (handlers_of h) given p a next.from next.to)
            → Walked t h s L (set given p (get_or given p 0 + (next.to - next.from))) next.to j
        turn-goes j ej within fine =
            subst (Walked t h s L (set given p (get_or given p 0 + (next.to - next.from))) next.to) (sym ej)
            (walked-turn t h s L ok given a i so (seg_of next) _ e p who-is refl (omega (arith, ej)) place_in (told-none _ fine))
