-- Refusal 6 clause by clause: what a run in bounds is.
--   Clauses r   no clause of refusal 6 applies
use mathlib.Core.Bool.{Bool, false, ◌||◌}
use mathlib.Core.Logic.{◌⊎◌, inl, inr}
use mathlib.Core.Path.{◌≡◌}
use native.Mathlib.Nat.{mul-le-mul}
use native.Mathlib.Omega.{arith}
use borrow.Author.Tests.{ltb-false, leb-false, lt-ltb}
use Prim.Native.Nat.{ℕ, ◌+◌, ◌-◌, ◌*◌, ◌≤◌, ◌<◌}
use lib.Dec.{ltb, eqb}
use lib.ListN.{get_or}
use Rattle.demand.proofs.Divide.{le-or-lt}
use Rattle.demand.specs.Limits.{tasks_most, handlers_most, ticks_most}
use Rattle.demand.specs.Refusals.{FairRow}
use Rattle.demand.specs.Rows.{Sound}
use Rattle.scheduler.specs.Bounds.{miscounts, outside_at, deadline_outside_at, table_refused, places_used, clock_past, too_far, next_too_far, too_much, task_too_much, too_much_behind, handler_too_much, due_far, due_too_far, due_behind, due_after_next, missed, deadline_missed, late_wrong, late_named, out_of_bounds, InBounds}
use Rattle.scheduler.specs.Runs.{row_in, row_count}
use Rattle.scheduler.specs.Inside.Counted.{Fitting, TableFair, owed_most}
use Rattle.scheduler.specs.Scans.{at, any}
use Rattle.scheduler.specs.declared.Run.{Run}
use Rattle.scheduler.proofs.Steps.RowPlaces.{fair-at, sound-at}
use Rattle.scheduler.proofs.Steps.Scan.{neither, any_at}

pub fitting : (n m : ℕ) → miscounts n m ≡ false → Fitting n m
fitting n m e =
    let handlers = neither (eqb n 0 || ltb tasks_most n) (ltb handlers_most m) e in
    let tasks = neither (eqb n 0) (ltb tasks_most n) handlers.0 in
    record { tasks = ltb-false tasks_most n tasks.1; handlers = ltb-false handlers_most m handlers.1 }

pub record Clauses (r : Run) : Type 0 where
  pub counts : miscounts r.task_count r.handler_count ≡ false
  pub figures : any (outside_at (row_in r)) (row_count r) ≡ false
  pub own : any (deadline_outside_at (row_in r)) r.task_count ≡ false
  pub places : places_used r ≡ false
  pub clock : clock_past r ≡ false
  pub next : next_too_far r ≡ false
  pub tasks : task_too_much r ≡ false
  pub handlers : handler_too_much r ≡ false
  pub due : due_too_far r ≡ false
  pub ordered : due_after_next r ≡ false
  pub deadlines : deadline_missed r ≡ false
  pub late : late_wrong r ≡ false
  pub named : late_named r ≡ false

-- None of eleven tests holds.
none_of : (a b c d e f g h i j k : Bool) → (a || b || c || d || e || f || g || h || i || j || k) ≡ false
    → (a ≡ false) × (b ≡ false) × (c ≡ false) × (d ≡ false) × (e ≡ false) × (f ≡ false) × (g ≡ false) × (h ≡ false) × (i ≡ false) × (j ≡ false) × (k ≡ false)
none_of a b c d e f g h i j k none =
    let u10 = neither (a || b || c || d || e || f || g || h || i || j) k none in
    let u9 = neither (a || b || c || d || e || f || g || h || i) j u10.0 in
    let u8 = neither (a || b || c || d || e || f || g || h) i u9.0 in
    let u7 = neither (a || b || c || d || e || f || g) h u8.0 in
    let u6 = neither (a || b || c || d || e || f) g u7.0 in
    let u5 = neither (a || b || c || d || e) f u6.0 in
    let u4 = neither (a || b || c || d) e u5.0 in
    let u3 = neither (a || b || c) d u4.0 in
    let u2 = neither (a || b) c u3.0 in
    let u1 = neither a b u2.0 in
    (u1.0, u1.1, u2.1, u3.1, u4.1, u5.1, u6.1, u7.1, u8.1, u9.1, u10.1)

module _ (r : Run) where
  pub clauses : InBounds r → Clauses r
  unfolding out_of_bounds
  clauses e =
      let none = none_of (table_refused r) (places_used r) (clock_past r) (next_too_far r) (task_too_much r) (handler_too_much r) (due_too_far r) (due_after_next r) (deadline_missed r) (late_wrong r) (late_named r) e in
      let own = neither (miscounts r.task_count r.handler_count || any (outside_at (row_in r)) (row_count r)) (any (deadline_outside_at (row_in r)) r.task_count) none.0 in
      let table = neither (miscounts r.task_count r.handler_count) (any (outside_at (row_in r)) (row_count r)) own.0 in
      record {
        counts = table.0;
        figures = table.1;
        own = own.1;
        places = none.1;
        clock = none.2;
        next = none.3;
        tasks = none.4;
        handlers = none.5;
        due = none.6;
        ordered = none.7;
        deadlines = none.8;
        late = none.9;
        named = none.10;
      }

  pub in_bounds : Clauses r → InBounds r
  unfolding out_of_bounds
  in_bounds c =
      simp (c.counts, c.figures, c.own, c.places, c.clock, c.next, c.tasks, c.handlers, c.due, c.ordered, c.deadlines, c.late, c.named)

-- ---- what a run in bounds is, place by place

module _ (r : Run) (c : Clauses r) where
  pub clauses-fit : Fitting r.task_count r.handler_count
  clauses-fit = fitting r.task_count r.handler_count c.counts

  pub clauses-table : TableFair r.tasks r.handlers r.task_count r.handler_count
  clauses-table = record { fitting = clauses-fit; figures = c.figures; own = c.own }

  pub clauses-clock : r.clock ≤ ticks_most
  clauses-clock = ltb-false ticks_most r.clock c.clock

  pub clauses-fair : (k : ℕ) → k < row_count r → FairRow (row_in r k)
  clauses-fair k l = fair-at (row_in r) (row_count r) k c.figures l

  pub clauses-next : (k : ℕ) → k < row_count r → get_or r.next k 0 ≤ r.clock + (row_in r k).period
  clauses-next k l = ltb-false _ _ (any_at (too_far r.clock (row_in r) r.next) (row_count r) k c.next l)

  pub clauses-task : (k : ℕ) → k < r.task_count → get_or r.owed k 0 ≤ (row_in r k).cost
  clauses-task k l = ltb-false _ _ (any_at (too_much (row_in r) r.owed) r.task_count k c.tasks l)

  pub clauses-handler : (i : ℕ) → i < r.handler_count → get_or r.owed (r.task_count + i) 0 ≤ r.clock * (row_in r (r.task_count + i)).cost
  clauses-handler i l = ltb-false _ _ (any_at (too_much_behind r.clock (row_in r) r.owed r.task_count) r.handler_count i c.handlers l)

  -- So no row is owed more than fits a word.
  pub clauses-owed : (k : ℕ) → k < row_count r → get_or r.owed k 0 ≤ owed_most
  clauses-owed k l = go (le-or-lt r.task_count k)
    where
      go : (r.task_count ≤ k) ⊎ (k < r.task_count) → get_or r.owed k 0 ≤ owed_most
      go (inr m) = omega (arith, clauses-task k m, (clauses-fair k l).cost.most)
      go (inl m) =
          let i : ℕ = k - r.task_count in
          let same : r.task_count + i ≡ k = omega arith in
          let most : get_or r.owed k 0 ≤ r.clock * (row_in r k).cost = rw same at (clauses-handler i (omega arith)) in
          omega (arith, most, mul-le-mul clauses-clock (clauses-fair k l).cost.most)

  -- A task has a deadline of its own from 1 to its period, ..
  pub clauses-sound : (k : ℕ) → k < r.task_count → Sound (row_in r k)
  clauses-sound k l = sound-at (row_in r) r.task_count k c.own l

  -- .. and that of its last job is at most so far ahead, and not after its next arrival.
  pub clauses-near : (k : ℕ) → k < r.task_count → get_or r.due k 0 ≤ r.clock + (row_in r k).deadline
  clauses-near k l = ltb-false _ _ (any_at (due_far r.clock (row_in r) r.due) r.task_count k c.due l)

  pub clauses-ordered : (k : ℕ) → k < r.task_count → get_or r.due k 0 ≤ get_or r.next k 0
  clauses-ordered k l = ltb-false _ _ (any_at (due_behind r.next r.due) r.task_count k c.ordered l)

  -- Where it is not over, a task owed work has its deadline ahead.
  pub clauses-due : r.over ≡ false → (k : ℕ) → k < r.task_count → 0 < get_or r.owed k 0 → r.clock < get_or r.due k 0
  clauses-due going k l work =
      let none = any_at (missed r.over r.clock (at r.due) r.owed) r.task_count k c.deadlines l in
      leb-false (get_or r.due k 0) r.clock (rw (lt-ltb 0 (get_or r.owed k 0) work, going) at none)
