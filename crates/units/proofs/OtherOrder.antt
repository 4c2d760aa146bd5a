-- A table in another order (specs/OtherOrder): refusals, and the answer.
use mathlib.Core.List.{List}
use mathlib.Core.Logic.{◌⊎◌, inl, inr}
use mathlib.Core.Path.{◌≡◌, ap, sym, ◌∙◌}
use native.Mathlib.Nat.{eq-zero-or-pos}
use native.Mathlib.Omega.{arith}
use lib.ListN.{length}
use Prim.Native.Nat.{ℕ, ◌≤◌, ◌<◌}
use Rattle.demand.specs.Limits.{ticks_most}
use Rattle.demand.specs.Refusals.{InRange, row_outside, deadline_outside, table_tests, table_refusal}
use Rattle.demand.specs.Rows.{tasks_of, handlers_of}
use Rattle.demand.proofs.Divide.{le-or-lt}
use Rattle.demand.proofs.Inside.Sizes.{fair-positive}
use Rattle.demand.proofs.Refusals.{refusal-in-range}
use Rattle.verdict.specs.Loads.{load}
use Rattle.verdict.specs.Multiples.{common}
use Rattle.verdict.specs.Promise.{Word, Figures, figures, yes_of, no_of, refusal_of, miss_at, verdict_refusal, SaysFits, SaysMisses, SaysRefused, SaysBy, Says, VerdictSays}
use Rattle.verdict.specs.Promise.Word.{fits, misses, refused}
use Rattle.verdict.proofs.Promise.{verdict-unique}
use Rattle.verdict.proofs.Readable.{readable-in-range, readable-zero, refused-4, refused-table}
use Rattle.units.specs.Orders.{Shuffled}
use Rattle.units.specs.OtherOrder.{OtherOrder}
use Rattle.units.proofs.Orders.{some-shuffled, length-shuffled, handled-shuffled, due-shuffled, left-shuffled}
use Rattle.units.proofs.ShuffledCounts.{tested-shuffled, yes-count-shuffled}
use Rattle.units.proofs.ShuffledLoads.{common-shuffled, load-shuffled, always-shuffled, least-shuffled}

-- ---- refusals and the answer

module _ (t h t' h' : List ℕ) (st : Shuffled (tasks_of t) (tasks_of t')) (lt : length t ≡ length t') (sh : Shuffled (handlers_of h) (handlers_of h')) (lh : length h ≡ length h') where
  -- The table's own refusal asks for lengths and for some row only.
  pub table-shuffled : table_refusal t h ≡ table_refusal t' h'
  unfolding table_refusal table_tests
  table-shuffled =
      rw (
        lt,
        lh,
        length-shuffled st,
        length-shuffled sh,
        some-shuffled row_outside st,
        some-shuffled row_outside sh,
        some-shuffled deadline_outside st,
      )

  fair : table_refusal t h ≡ 0 → InRange (tasks_of t) (handlers_of h)
  fair e = refusal-in-range t h e

  pub refusal-shuffled : verdict_refusal t h ≡ verdict_refusal t' h'
  refusal-shuffled = go (eq-zero-or-pos (table_refusal t h))
    where
      split : table_refusal t h ≡ 0 → common (tasks_of t) (handlers_of h) ≡ common (tasks_of t') (handlers_of h')
          → (common (tasks_of t) (handlers_of h) ≤ ticks_most) ⊎ (ticks_most < common (tasks_of t) (handlers_of h)) → verdict_refusal t h ≡ verdict_refusal t' h'
      split e p (inl short) = readable-zero t h e short ∙ sym (readable-zero t' h' (sym table-shuffled ∙ e) (omega (arith, short, p)))
      split e p (inr long) = refused-4 t h e long ∙ sym (refused-4 t' h' (sym table-shuffled ∙ e) (omega (arith, long, p)))

      go : (table_refusal t h ≡ 0) ⊎ (0 < table_refusal t h) → verdict_refusal t h ≡ verdict_refusal t' h'
      go (inl e) =
          split e
          (common-shuffled st sh (fair-positive (tasks_of t) (fair e).tasks) (fair-positive (handlers_of h) (fair e).handlers))
          (le-or-lt (common (tasks_of t) (handlers_of h)) ticks_most)
      go (inr some) = refused-table t h some ∙ table-shuffled ∙ sym (refused-table t' h' (omega (arith, some, table-shuffled)))

  load_same : verdict_refusal t h ≡ 0 → load (tasks_of t) (handlers_of h) ≡ load (tasks_of t') (handlers_of h')
  load_same readable =
      let f : InRange (tasks_of t) (handlers_of h) = readable-in-range t h readable in
      load-shuffled st sh (fair-positive (tasks_of t) f.tasks) (fair-positive (handlers_of h) f.handlers)

  fits-shuffled : (g : Figures) → SaysFits t h g → SaysFits t' h' g
  fits-shuffled g a =
      let f : InRange (tasks_of t) (handlers_of h) = readable-in-range t h a.readable in
      record {
        readable = sym refusal-shuffled ∙ a.readable;
        passes = always-shuffled st sh a.passes;
        count = yes-count-shuffled st sh (fair-positive (tasks_of t) f.tasks) (fair-positive (handlers_of h) f.handlers) g.tested a.count;
        figures = a.figures ∙ ap (λ (n : ℕ). yes_of n g.tested) (load_same a.readable);
      }

  miss-shuffled : (l : ℕ) → miss_at (tasks_of t) (handlers_of h) l ≡ miss_at (tasks_of t') (handlers_of h') l
  miss-shuffled l = λ i. record {
    interval = l;
    handler = handled-shuffled sh l i;
    task = due-shuffled st l i;
    left = left-shuffled sh l i;
    tested = tested-shuffled st l i;
  }

  misses-shuffled : (g : Figures) → SaysMisses t h g → SaysMisses t' h' g
  misses-shuffled g a = record {
    readable = sym refusal-shuffled ∙ a.readable;
    shortest = least-shuffled st sh g.interval a.shortest;
    figures = a.figures ∙ (λ i. no_of (miss-shuffled g.interval i) (load_same a.readable i));
  }

  refused-shuffled : (g : Figures) → SaysRefused t h g → SaysRefused t' h' g
  refused-shuffled g a = record {
    unreadable = omega (arith, a.unreadable, refusal-shuffled);
    figures = a.figures ∙ ap refusal_of refusal-shuffled;
  }

  pub says-shuffled : (g : Figures) → Says t h g → Says t' h' g
  unfolding Says SaysBy
  says-shuffled g = go g.word
    where
      go : (w : Word) → SaysBy w t h g → SaysBy w t' h' g
      go fits a = fits-shuffled g a
      go misses a = misses-shuffled g a
      go refused a = refused-shuffled g a

-- M-104: reordering changes no answer.
pub other-order : OtherOrder
unfolding OtherOrder VerdictSays
other-order t h t' h' r s st lt sh lh says says' =
    verdict-unique t' h' r s (unfold VerdictSays in says-shuffled t h t' h' st lt sh lh (figures r) says) says'
