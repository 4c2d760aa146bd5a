-- What meets the promise, and that it allows one answer.
--   Readable t h L   what no refusal says: the table is readable, and the span from 1 to H
use mathlib.Core.List.{List, []}
use mathlib.Core.Path.{◌≡◌, refl, sym, ap, ◌∙◌}
use native.Mathlib.Omega.{arith}
use Prim.Native.Nat.{ℕ, ◌≤◌, ◌<◌}
use lib.ListN.{length, replicate, length-replicate}
use Rattle.demand.proofs.Numbered.{number-pos}
use Rattle.demand.specs.Numbered.{number_of}
use Rattle.demand.specs.declared.refusal.Refusal.{Refusal}
use Rattle.std.specs.Prelude.{Ok, Err}
use Rattle.demand.specs.Limits.{ticks_most}
use Rattle.demand.specs.Refusals.{table_refusal}
use Rattle.guarantees.specs.Patterns.{pattern_to}
use Rattle.guarantees.specs.Synchronous.{sync_run}
use Rattle.own_segments.proofs.Drawings.{segments-right}
use Rattle.own_segments.proofs.Lists.{padded-none}
use Rattle.own_segments.specs.Drawn.{numbers_of}
use Rattle.own_segments.specs.Inside.{Started, DrawnTo}
use Rattle.own_segments.specs.Own.{own}
use Rattle.own_segments.specs.Promise.{figures, own_refusal, own_segments, room_in, OwnSays, SaysBy}
use Rattle.own_segments.specs.Promise.Word.{segments, refused}
use Rattle.own_segments.specs.declared.Answer.TheVariants as answer
use Rattle.own_segments.specs.declared.Drawn.{Drawn}
use Rattle.scheduler.specs.Promise.{FreshSays}
use Rattle.scheduler.specs.Reached.{offered_by}
use Rattle.scheduler.specs.Start.{padded}
use Rattle.scheduler.specs.declared.Fresh.{Fresh}
use Rattle.segments.proofs.Refusals.{answered}
use Rattle.segments.specs.Promise.{judge_refusal}
use Rattle.verdict.proofs.Readable.{readable-table, readable-common}
use Rattle.verdict.specs.Promise.{verdict_refusal}

pub record Readable (t h : List ℕ) (L : ℕ) : Type 0 where
  pub readable : verdict_refusal t h ≡ 0
  pub table : table_refusal t h ≡ 0
  pub some : 0 < L
  pub soon : L ≤ ticks_most

pub own-readable : (t h : List ℕ) (L : ℕ) → own_refusal t h L ≡ 0 → Readable t h L
unfolding own_refusal
own-readable t h L e =
    let a = answered t h [] L e in
    record {
      readable = a.readable;
      table = readable-table t h a.readable;
      some = a.least;
      soon = omega (arith, a.most, readable-common t h a.readable);
    }

-- The run of the table starts fresh.
fresh-sync : (t h : List ℕ) (a : Fresh) → FreshSays t h a → a.run ≡ sync_run t h 0
unfolding pattern_to offered_by
fresh-sync t h a says = ap (λ (x : Fresh). x.run) says.answer

module _ (t h : List ℕ) (L : ℕ) (old clear : List ℕ) (cleared : clear ≡ replicate (length old) 0) where
  pub says-refused : (e : Refusal) → number_of e ≡ judge_refusal t h [] L → OwnSays t h L old clear (Err e)
  unfolding OwnSays SaysBy figures own_refusal
  says-refused e asked = record {
    unanswered = omega (arith, number-pos e, asked);
    laid = cleared ∙ sym (padded-none (length old));
    figures = ap (λ (k : ℕ). record { word = refused; code = k; count = 0; end = 0 }) asked;
  }

  module _ (asked : 0 ≡ judge_refusal t h [] L) where
    zero-refusal : own_refusal t h L ≡ 0
    unfolding own_refusal
    zero-refusal = sym asked

    long : length clear ≡ length old
    long = ap length cleared ∙ length-replicate {A = ℕ} (length old) 0

    pub says-started : (fresh : Fresh) (room : ℕ) → FreshSays t h fresh → room ≡ room_in (length clear)
        → Started t h fresh.run L room clear
    says-started fresh room says er =
        let r = own-readable t h L zero-refusal in
        record {
          table = r.table;
          run_is = fresh-sync t h fresh says;
          some = r.some;
          soon = r.soon;
          room-is = er;
          clear = cleared ∙ ap (λ (k : ℕ). replicate k 0) (sym long);
        }

    module _ (room : ℕ) (er : room ≡ room_in (length clear)) (d : Drawn) (drawing : List ℕ)
        (drawn : DrawnTo t h L room clear drawing d) where
      room-is : room ≡ room_in (length old)
      room-is = er ∙ ap room_in long

      pub says-many : room < d.count → (new : List ℕ) → new ≡ replicate (length drawing) 0 → OwnSays t h L old new (Ok answer.TooMany)
      unfolding OwnSays SaysBy figures
      says-many many new e = record {
        answered = zero-refusal;
        many = omega (arith, drawn.many many, room-is);
        laid = e ∙ ap (λ (k : ℕ). replicate k 0) (drawn.long ∙ long) ∙ sym (padded-none (length old));
        figures = refl;
      }

      pub says-segments : ¬ (room < d.count) → OwnSays t h L old drawing (Ok (answer.Segments d.count d.end))
      unfolding OwnSays SaysBy figures
      says-segments few =
          let l : d.count ≤ room = omega arith in
          let right = segments-right (own t h) L in
          record {
            answered = zero-refusal;
            few = omega (arith, drawn.count l, room-is);
            laid = drawn.laid l ∙ ap (λ (k : ℕ). padded k (numbers_of (own_segments t h L))) long;
            in_order = right.in_order;
            joined = right.joined;
            agrees = λ x a b. right.says x b;
            ending = drawn.ending l;
            figures = ap (λ (k : ℕ). record { word = segments; code = 0; count = k; end = d.end }) (drawn.count l);
          }
