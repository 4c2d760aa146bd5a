-- A table in finer ticks (specs/FinerTicks): the answer.
use mathlib.Core.List.{List}
use mathlib.Core.Path.{◌≡◌, ap, sym, ◌∙◌}
use native.Mathlib.Nat.{mul-zero}
use native.Mathlib.Omega.{arith}
use Prim.Native.Nat.{ℕ, ◌*◌, ◌<◌}
use Rattle.demand.specs.Demands.{handled, left, due}
use Rattle.demand.specs.Refusals.{InRange}
use Rattle.demand.specs.Rows.{Positive, tasks_of, handlers_of}
use Rattle.demand.proofs.Inside.Sizes.{fair-positive}
use Rattle.verdict.specs.Loads.{load}
use Rattle.verdict.specs.Promise.{Word, Figures, figures, yes_of, no_of, miss_at, verdict_refusal, SaysFits, SaysMisses, SaysBy, Says, VerdictSays}
use Rattle.verdict.specs.Promise.Word.{fits, misses, refused}
use Rattle.verdict.specs.Tested.{tested}
use Rattle.verdict.proofs.Promise.{says-unique}
use Rattle.verdict.proofs.Readable.{readable-in-range}
use Rattle.units.specs.Finer.{times, scale}
use Rattle.units.specs.FinerTicks.{figures_times, FinerTicks}
use Rattle.units.proofs.Counts.{tested-times, yes-count-times}
use Rattle.units.proofs.Finer.{tasks-times, handlers-times, handled-scale, due-times, left-times}
use Rattle.units.proofs.Loads.{load-scale, always-scale, least-scale}

module _ (k : ℕ) (pos : 0 < k) (t h : List ℕ) (readable : verdict_refusal t h ≡ 0) (readable' : verdict_refusal (times k t) (times k h) ≡ 0) where
  fair : InRange (tasks_of t) (handlers_of h)
  fair = readable-in-range t h readable

  finer : InRange (scale k (tasks_of t)) (scale k (handlers_of h))
  finer = rw (tasks-times k t, handlers-times k h) at (readable-in-range (times k t) (times k h) readable')

  pt : Positive (tasks_of t)
  pt = fair-positive (tasks_of t) fair.tasks

  ph : Positive (handlers_of h)
  ph = fair-positive (handlers_of h) fair.handlers

  load-times : load (tasks_of t) (handlers_of h) ≡ load (tasks_of (times k t)) (handlers_of (times k h))
  load-times = rw (tasks-times k t, handlers-times k h) (sym (load-scale k (tasks_of t) (handlers_of h) pos pt ph fair.some-task))

  -- The figures of a no at l, in finer ticks.
  module _ (l : ℕ) where
    handler-times : k * handled (handlers_of h) l ≡ handled (handlers_of (times k h)) (k * l)
    handler-times = rw (handlers-times k h) (sym (handled-scale k l (handlers_of h) pos ph))

    task-times : k * due (tasks_of t) l ≡ due (tasks_of (times k t)) (k * l)
    task-times = rw (tasks-times k t) (sym (due-times k l (tasks_of t) pos fair.deadlines))

    over-times : k * left (handlers_of h) l ≡ left (handlers_of (times k h)) (k * l)
    over-times = rw (handlers-times k h) (sym (left-times k l (handlers_of h) pos ph))

    count-times : tested (tasks_of t) l ≡ tested (tasks_of (times k t)) (k * l)
    count-times = rw (tasks-times k t) (sym (tested-times k l (tasks_of t) pos fair.tasks fair.deadlines finer.tasks))

    miss-times : figures_times k (no_of (miss_at (tasks_of t) (handlers_of h) l) (load (tasks_of t) (handlers_of h)))
        ≡ no_of (miss_at (tasks_of (times k t)) (handlers_of (times k h)) (k * l)) (load (tasks_of (times k t)) (handlers_of (times k h)))
    unfolding figures_times
    miss-times = λ i. record {
      word = misses;
      code = 0;
      interval = k * l;
      handler = handler-times i;
      task = task-times i;
      load = load-times i;
      left = over-times i;
      tested = count-times i;
    }

  -- A yes stays a yes.
  fits-times : (g : Figures) → SaysFits t h g → SaysFits (times k t) (times k h) (figures_times k g)
  unfolding figures_times
  fits-times g a = record {
    readable = readable';
    passes = rw (tasks-times k t, handlers-times k h) (always-scale k pos (tasks_of t) (handlers_of h) fair.deadlines ph a.passes);
    count = rw (tasks-times k t, handlers-times k h) (yes-count-times k g.tested (tasks_of t) (handlers_of h) pos fair finer a.count);
    figures = ap (figures_times k) a.figures ∙ finer-yes;
  }
    where
      -- what does not apply is 0 in any ticks
      finer-yes : figures_times k (yes_of (load (tasks_of t) (handlers_of h)) g.tested) ≡ yes_of (load (tasks_of (times k t)) (handlers_of (times k h))) g.tested
      finer-yes = λ i. record {
        word = fits;
        code = 0;
        interval = mul-zero k i;
        handler = mul-zero k i;
        task = mul-zero k i;
        load = load-times i;
        left = mul-zero k i;
        tested = g.tested;
      }

  -- A no stays a no, at k times the length, with k times both demands.
  misses-times : (g : Figures) → SaysMisses t h g → SaysMisses (times k t) (times k h) (figures_times k g)
  unfolding figures_times
  misses-times g a = record {
    readable = readable';
    shortest = rw (tasks-times k t, handlers-times k h) (least-scale k pos (tasks_of t) (handlers_of h) fair.deadlines ph g.interval a.shortest);
    figures = ap (figures_times k) a.figures ∙ miss-times g.interval;
  }

  pub says-times : (g : Figures) → Says t h g → Says (times k t) (times k h) (figures_times k g)
  unfolding Says SaysBy figures_times
  says-times g = go g.word
    where
      go : (w : Word) → SaysBy w t h g → SaysBy w (times k t) (times k h) (figures_times k g)
      go fits a = fits-times g a
      go misses a = misses-times g a
      go refused a = absurd (omega (arith, a.unreadable, readable))

-- M-104: the same board in finer ticks.
pub finer-ticks : FinerTicks
unfolding FinerTicks VerdictSays
finer-ticks k t h r s from readable readable' says says' =
    says-unique (times k t) (times k h) (figures s) (figures_times k (figures r)) says' (says-times k from t h readable readable' (figures r) says)
