-- All segments drawn, turn by turn.
--   Walked ..   the run has come to a clock within the span, and the pen and the list hold the drawing of its ticks
use mathlib.Core.Bool.{Bool, true, false, not, ◌&&◌, false≢true}
use mathlib.Core.List.{List}
use mathlib.Core.Logic.{⊎_elim}
use mathlib.Core.Path.{◌≡◌, refl, sym, ap, subst, ◌∙◌}
use native.Mathlib.Nat.{eq-or-lt_of_le}
use native.Mathlib.Omega.{arith}
use borrow.Author.Tests.{ltb-true, lt-ltb, leb-true, le-leb}
use Prim.Native.Nat.{ℕ, ◌+◌, ◌-◌, ◌≤◌, ◌<◌}
use lib.Dec.{ltb, leb}
use lib.ListN.{length}
use Rattle.advance.specs.declared.Piece.{Piece}
use Rattle.demand.specs.Limits.{ticks_most}
use Rattle.demand.specs.Refusals.{table_refusal}
use Rattle.guarantees.specs.Synchronous.{sync_run}
use Rattle.own_segments.proofs.Drawings.{drawn-piece, more-later, idle-later}
use Rattle.own_segments.proofs.Pens.{holds-start, holds-moved, holds-closed, count_next, count-grows}
use Rattle.own_segments.proofs.Runs.{over-nobody}
use Rattle.own_segments.specs.Drawn.{closed, drawn, segments_to, numbers_of}
use Rattle.own_segments.specs.Inside.{Turning, Turned, closed_count, closed_out, moved_pen, moved_out, Holds, Started, DrawnTo}
use Rattle.own_segments.specs.Own.{own, who_ran}
use Rattle.own_segments.specs.Promise.{room_in, own_segments}
use Rattle.own_segments.specs.declared.pen.Pen.{Pen}
use Rattle.scheduler.specs.Start.{padded}
use Rattle.scheduler.specs.declared.Ran.TheVariants.{Idle}
use Rattle.scheduler.specs.declared.Run.{Run}
use Rattle.segments.specs.Segments.{Seg}

pub record Walked (t h : List ℕ) (span room n : ℕ) (run : Run) (clock : ℕ) (pen : Pen) (out : List ℕ) : Type 0 where
  pub table : table_refusal t h ≡ 0
  pub soon : span ≤ ticks_most
  pub fits : room ≤ room_in n
  pub run_is : run ≡ sync_run t h clock
  pub within : clock ≤ span
  pub going : (m : ℕ) → m < clock → (sync_run t h m).over ≡ false
  pub holds : Holds room n pen out (drawn (own t h) clock)
  pub few : pen.count ≤ room + 1

pub walked_start : (t h : List ℕ) (run : Run) (span room : ℕ) (out : List ℕ) → Started t h run span room out
    → Walked t h span room (length out) run 0 (record { ran = Idle; from = 0; count = 0 }) out
walked_start t h run span room out started = record {
  table = started.table;
  soon = started.soon;
  fits = omega (arith, started.room-is);
  run_is = started.run_is;
  within = omega arith;
  going = λ m l. absurd (omega arith);
  holds = holds-start (own t h) room (length out) out started.clear;
  few = omega arith;
}

-- The loop's test: ticks are left, the run is not over, and there is room.
both : (a b : Bool) → (a && b) ≡ true → (a ≡ true) × (b ≡ true)
both true b e = (refl, e)
both false b e = absurd (false≢true e)

pub onward : (clock span : ℕ) (over : Bool) (count room : ℕ) → (ltb clock span && not over && leb count room) ≡ true
    → (clock < span) × (over ≡ false) × (count ≤ room)
onward clock span over count room e =
    let last = both (ltb clock span && not over) (leb count room) e in
    let first = both (ltb clock span) (not over) last.0 in
    (ltb-true clock span first.0, off over first.1, leb-true count room last.1)
  where
    off : (b : Bool) → not b ≡ true → b ≡ false
    off true q = absurd (false≢true q)
    off false q = refl

module _ (t h : List ℕ) (span room n : ℕ) (run : Run) (clock : ℕ) (pen : Pen) (out : List ℕ)
    (w : Walked t h span room n run clock pen out) where
  pub walked-fits : room ≤ room_in (length out)
  walked-fits = subst (λ (m : ℕ). room ≤ room_in m) (sym w.holds.long) w.fits

  -- Not over at its own clock either.
  still : run.over ≡ false → (m : ℕ) → m ≤ clock → (sync_run t h m).over ≡ false
  still going m l =
      ⊎_elim
      (λ e. ap (λ (x : ℕ). (sync_run t h x).over) e ∙ ap (λ (r : Run). r.over) (sym w.run_is) ∙ going)
      (λ k. w.going m k)
      (eq-or-lt_of_le l)

  pub walked-turning : clock < span → run.over ≡ false → Turning t h run clock span
  walked-turning l going = record { table = w.table; run_is = w.run_is; going = still going; before = l; soon = w.soon }

  pub walked_next : (p : Piece) → pen.count ≤ room → Turned t h clock span p
      → Walked t h span room n p.run (clock + p.ticks) (moved_pen pen p.ran clock) (moved_out out pen p.ran clock room)
  walked_next p l turned = record {
    table = w.table;
    soon = w.soon;
    fits = w.fits;
    run_is = turned.run_is;
    within = turned.within;
    going = turned.going;
    holds =
        subst (Holds room n (moved_pen pen p.ran clock) (moved_out out pen p.ran clock room))
        (sym (drawn-piece (own t h) clock p.ticks (who_ran p.ran) turned.some turned.alone))
        (holds-moved room n w.fits pen out (drawn (own t h) clock) w.holds p.ran clock);
    few = omega (arith, count_next pen p.ran clock);
  }

  -- As the code makes it.
  pub walked-next-by : (p : Piece) → pen.count ≤ room → Turned t h clock span p → (pen' : Pen) (out' : List ℕ)
      → pen' ≡ moved_pen pen p.ran clock → out' ≡ moved_out out pen p.ran clock room
      → Walked t h span room n p.run (clock + p.ticks) pen' out'
  walked-next-by p l turned pen' out' ep eo =
      subst (λ (x : Pen). Walked t h span room n p.run (clock + p.ticks) x out') (sym ep)
      (subst (λ (x : List ℕ). Walked t h span room n p.run (clock + p.ticks) (moved_pen pen p.ran clock) x) (sym eo)
      (walked_next p l turned))

  -- ---- the end

  rest : clock + (span - clock) ≡ span
  rest = omega (arith, w.within)

  -- Behind the clock nobody runs: the span is over or the run is.
  all-drawn : (clock < span → run.over ≡ true) → own_segments t h span ≡ closed (drawn (own t h) clock) clock
  all-drawn over =
      ap (λ (x : ℕ). segments_to (own t h) x) (sym rest)
      ∙ idle-later (own t h) clock (span - clock)
      (λ i l. over-nobody t h w.table clock (omega (arith, w.within, w.soon)) w.going
      (ap (λ (r : Run). r.over) (sym w.run_is) ∙ over (omega arith)) i)

  no-fewer : length (closed (drawn (own t h) clock) clock) ≤ length (own_segments t h span)
  no-fewer =
      subst (λ (x : ℕ). length (closed (drawn (own t h) clock) clock) ≤ length (segments_to (own t h) x)) rest
      (more-later (own t h) clock (span - clock))

  -- Out of the loop with room left.
  stopped : (ltb clock span && not run.over && leb pen.count room) ≡ false → pen.count ≤ room → clock < span → run.over ≡ true
  stopped e l below = go run.over refl
    where
      go : (b : Bool) → run.over ≡ b → run.over ≡ true
      go true q = q
      go false q = absurd (false≢true (sym (rw (lt-ltb clock span below, q, le-leb pen.count room l) at e)))

  grows : pen.count ≤ closed_count pen
  grows = count-grows pen

  pub walked_end : (ltb clock span && not run.over && leb pen.count room) ≡ false → (old : List ℕ) → length old ≡ n
      → (count : ℕ) (new : List ℕ) → count ≡ closed_count pen → new ≡ closed_out out pen clock room
      → DrawnTo t h span room old new (record { count = count; end = clock })
  walked_end e old long count new ec en =
      let c = holds-closed room n w.fits pen out (drawn (own t h) clock) w.holds clock in
      let whole : count ≤ room → own_segments t h span ≡ closed (drawn (own t h) clock) clock
      = λ l. all-drawn (stopped e (omega (arith, ec, grows))) in
      record {
        long = ap length en ∙ c.long ∙ sym long;
        many = λ l. omega (arith, ec, c.count-is, no-fewer);
        count = λ l. ec ∙ c.count-is ∙ ap length (sym (whole l));
        laid =
            λ l. en ∙ c.laid (omega (arith, ec)) ∙ ap (λ (ss : List Seg). padded n (numbers_of ss)) (sym (whole l)) ∙ ap
            (λ (m : ℕ). padded m (numbers_of (own_segments t h span))) (sym long);
        ending = λ l. record {
          within = w.within;
          going = w.going;
          over = λ below. ap (λ (r : Run). r.over) (sym w.run_is) ∙ stopped e (omega (arith, ec, grows)) below;
        };
      }
