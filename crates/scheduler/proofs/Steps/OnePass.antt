-- Refusal 6 in one pass over the tasks and one over the handlers, as the code asks it.
--   TaskClear, HandlerClear   no clause of refusal 6 speaks against a row
use mathlib.Core.Bool.{Bool, true, false, ◌&&◌, ◌||◌}
use mathlib.Core.List.{List}
use mathlib.Core.Logic.{◌⊎◌, inl, inr}
use mathlib.Core.Path.{◌≡◌, refl, sym, ◌∙◌}
use native.Mathlib.Omega.{arith}
use borrow.Author.Tests.{ltb-false, le-ltb, lt-ltb, le-leb, lt-leb}
use Prim.Native.Nat.{ℕ, ◌+◌, ◌-◌, ◌*◌, ◌≤◌, ◌<◌}
use lib.Dec.{ltb, leb}
use lib.ListN.{get_or}
use Rattle.demand.proofs.Divide.{le-or-lt}
use Rattle.demand.proofs.Refusals.{fair-row, sound-row}
use Rattle.demand.specs.Limits.{ticks_most}
use Rattle.demand.specs.Refusals.{row_outside, deadline_outside, FairRow}
use Rattle.demand.specs.Rows.{Row, tasks_of, handlers_of, row_at, Sound}
use Rattle.scheduler.specs.Bounds.{miscounts, outside_at, deadline_outside_at, places_used, clock_past, too_far, too_much, too_much_behind, due_far, due_behind, passed, missed, late_wrong, late_named, out_of_bounds, InBounds}
use Rattle.scheduler.specs.Inside.Counted.{Fitting}
use Rattle.scheduler.specs.Inside.OnePass.{earliest_due, task_out, handler_out, task_out_at, handler_out_at}
use Rattle.scheduler.specs.Runs.{row_on, row_in, row_count}
use Rattle.scheduler.specs.Scans.{at, any}
use Rattle.scheduler.specs.declared.Run.{Run}
use Rattle.scheduler.proofs.Steps.Clauses.{fitting, Clauses, clauses, in_bounds}
use Rattle.scheduler.proofs.Steps.Scan.{neither, same_test, any_at, any_false, any-split}

-- Passed is before the earliest deadline that has not.
pub passed-before : (over : Bool) (clock due : ℕ) → ltb due (earliest_due over clock) ≡ passed over clock due
passed-before true clock due = refl
passed-before false clock due = go (le-or-lt due clock)
  where
    go : (due ≤ clock) ⊎ (clock < due) → ltb due (clock + 1) ≡ leb due clock
    go (inl h) = rw (lt-ltb due (clock + 1) (omega arith), le-leb due clock h)
    go (inr h) = rw (le-ltb due (clock + 1) (omega arith), lt-leb due clock h)

-- ---- one row

pub record TaskClear (clock first : ℕ) (row : Row) (next due owed : ℕ) : Type 0 where
  pub figures : row_outside row ≡ false
  pub own : deadline_outside row ≡ false
  pub near : ltb (clock + row.period) next ≡ false
  pub light : ltb row.cost owed ≡ false
  pub due-near : ltb (clock + row.deadline) due ≡ false
  pub ordered : ltb next due ≡ false
  pub timely : (ltb 0 owed && ltb due first) ≡ false

task-clear : (clock first : ℕ) (row : Row) (next due owed : ℕ) → task_out clock first row next due owed ≡ false → TaskClear clock first row next due owed
task-clear clock first row next due owed e =
    let a : Bool = row_outside row in
    let b : Bool = deadline_outside row in
    let c : Bool = ltb (clock + row.period) next in
    let d : Bool = ltb row.cost owed in
    let f : Bool = ltb (clock + row.deadline) due in
    let g : Bool = ltb next due in
    let u6 = neither (a || b || c || d || f || g) (ltb 0 owed && ltb due first) e in
    let u5 = neither (a || b || c || d || f) g u6.0 in
    let u4 = neither (a || b || c || d) f u5.0 in
    let u3 = neither (a || b || c) d u4.0 in
    let u2 = neither (a || b) c u3.0 in
    let u1 = neither a b u2.0 in
    record { figures = u1.0; own = u1.1; near = u2.1; light = u3.1; due-near = u4.1; ordered = u5.1; timely = u6.1 }

pub record HandlerClear (clock : ℕ) (row : Row) (next owed : ℕ) : Type 0 where
  pub figures : row_outside row ≡ false
  pub near : ltb (clock + row.period) next ≡ false
  pub light : ltb (clock * row.cost) owed ≡ false

handler-clear : (clock : ℕ) (row : Row) (next owed : ℕ) → handler_out clock row next owed ≡ false → HandlerClear clock row next owed
handler-clear clock row next owed e =
    let u2 = neither (row_outside row || ltb (clock + row.period) next) (ltb (clock * row.cost) owed) e in
    let u1 = neither (row_outside row) (ltb (clock + row.period) next) u2.0 in
    record { figures = u1.0; near = u1.1; light = u2.1 }

-- The figures first: where one is out of its range the row is out; else they are in range, and the rest decides.
module _ (clock first : ℕ) (row : Row) (next due owed : ℕ) where
  pub task-figures : (row_outside row || deadline_outside row) ≡ true → true ≡ task_out clock first row next due owed
  task-figures e = rw e

  pub task-rest : (row_outside row || deadline_outside row) ≡ false
      → (ltb (clock + row.period) next || ltb row.cost owed || ltb (clock + row.deadline) due || ltb next due || (ltb 0 owed && ltb due first))
      ≡ task_out clock first row next due owed
  task-rest e = rw e

  pub handler-figures : row_outside row ≡ true → true ≡ handler_out clock row next owed
  handler-figures e = rw e

  pub handler-rest : row_outside row ≡ false → (ltb (clock + row.period) next || ltb (clock * row.cost) owed) ≡ handler_out clock row next owed
  handler-rest e = rw e

pub task-fair : (row : Row) → (row_outside row || deadline_outside row) ≡ false → FairRow row × Sound row
task-fair row e = let both = neither (row_outside row) (deadline_outside row) e in (fair-row row both.0, sound-row row both.1)

-- ---- rows by kind

module _ (t h : List ℕ) (n : ℕ) where
  pub task-row : (k : ℕ) → k < n → row_on t h n k ≡ row_at (tasks_of t) k
  task-row k l = rw (lt-ltb k n l)

  pub handler-row : (i : ℕ) → row_on t h n (n + i) ≡ row_at (handlers_of h) i
  handler-row i = let behind : n + i - n ≡ i = omega arith in rw (le-ltb (n + i) n (omega arith), behind)

-- ---- the run

-- What its counts and its clock being in range says.
pub begun : (n m clock : ℕ) → (miscounts n m || ltb ticks_most clock) ≡ false → Fitting n m × (clock ≤ ticks_most)
begun n m clock e = let both = neither (miscounts n m) (ltb ticks_most clock) e in (fitting n m both.0, ltb-false ticks_most clock both.1)

module _ (r : Run) where
  abbrev n : ℕ
  n = r.task_count

  abbrev m : ℕ
  m = r.handler_count

  abbrev first : ℕ
  first = earliest_due r.over r.clock

  abbrev pub tasks_out : Bool
  tasks_out = any (task_out_at r.clock first r.tasks r.next r.due r.owed) n

  abbrev pub handlers_out : Bool
  handlers_out = any (handler_out_at r.clock r.handlers r.next r.owed n) m

  -- What holds of each task and of each handler holds of each place.
  by_kind : (p : ℕ → Bool) → ((k : ℕ) → k < n → p k ≡ false) → ((i : ℕ) → i < m → p (n + i) ≡ false) → any p (row_count r) ≡ false
  by_kind p of-tasks of-handlers = any-split p n m ∙ rw (any_false p n of-tasks, any_false (λ i. p (n + i)) m of-handlers)

  module _ (tasks : tasks_out ≡ false) (handlers : handlers_out ≡ false) where
    task : (k : ℕ) → k < n → TaskClear r.clock first (row_in r k) (get_or r.next k 0) (get_or r.due k 0) (get_or r.owed k 0)
    task k l =
        rw (task-row r.tasks r.handlers n k l)
        (task-clear r.clock first (row_at (tasks_of r.tasks) k) (get_or r.next k 0) (get_or r.due k 0) (get_or r.owed k 0) (any_at _ n k tasks l))

    handler : (i : ℕ) → i < m → HandlerClear r.clock (row_in r (n + i)) (get_or r.next (n + i) 0) (get_or r.owed (n + i) 0)
    handler i l =
        rw (handler-row r.tasks r.handlers n i)
        (handler-clear r.clock (row_at (handlers_of r.handlers) i) (get_or r.next (n + i) 0) (get_or r.owed (n + i) 0) (any_at _ m i handlers l))

    pass-clauses : miscounts n m ≡ false → clock_past r ≡ false → places_used r ≡ false → late_wrong r ≡ false → late_named r ≡ false → Clauses r
    pass-clauses counts clock places late named = record {
      counts = counts;
      figures = by_kind (outside_at (row_in r)) (λ k l. (task k l).figures) (λ i l. (handler i l).figures);
      own = any_false (deadline_outside_at (row_in r)) n (λ k l. (task k l).own);
      places = places;
      clock = clock;
      next = by_kind (too_far r.clock (row_in r) r.next) (λ k l. (task k l).near) (λ i l. (handler i l).near);
      tasks = any_false (too_much (row_in r) r.owed) n (λ k l. (task k l).light);
      handlers = any_false (too_much_behind r.clock (row_in r) r.owed n) m (λ i l. (handler i l).light);
      due = any_false (due_far r.clock (row_in r) r.due) n (λ k l. (task k l).due-near);
      ordered = any_false (due_behind r.next r.due) n (λ k l. (task k l).ordered);
      deadlines =
          any_false (missed r.over r.clock (at r.due) r.owed) n
          (λ k l. rw (← passed-before r.over r.clock (get_or r.due k 0)) (task k l).timely);
      late = late;
      named = named;
    }

  module _ (c : Clauses r) where
    pub clauses-tasks : tasks_out ≡ false
    clauses-tasks =
        any_false _ n
        (λ k l.
        rw (
          ← task-row r.tasks r.handlers n k l,
          any_at (outside_at (row_in r)) (row_count r) k c.figures (omega arith),
          any_at (deadline_outside_at (row_in r)) n k c.own l,
          any_at (too_far r.clock (row_in r) r.next) (row_count r) k c.next (omega arith),
          any_at (too_much (row_in r) r.owed) n k c.tasks l,
          any_at (due_far r.clock (row_in r) r.due) n k c.due l,
          any_at (due_behind r.next r.due) n k c.ordered l,
          passed-before r.over r.clock (get_or r.due k 0),
          any_at (missed r.over r.clock (at r.due) r.owed) n k c.deadlines l,
        ))

    pub clauses-handlers : handlers_out ≡ false
    clauses-handlers =
        any_false _ m
        (λ i l.
        rw (
          ← handler-row r.tasks r.handlers n i,
          any_at (outside_at (row_in r)) (row_count r) (n + i) c.figures (omega arith),
          any_at (too_far r.clock (row_in r) r.next) (row_count r) (n + i) c.next (omega arith),
          any_at (too_much_behind r.clock (row_in r) r.owed n) m i c.handlers l,
        ))

  -- A count or the clock is out of its range: out of bounds.
  pub out_first : (miscounts n m || clock_past r) ≡ true → true ≡ out_of_bounds r
  out_first e = go (out_of_bounds r) refl
    where
      go : (b : Bool) → out_of_bounds r ≡ b → true ≡ b
      go true q = refl
      go false q = let c = clauses r q in sym e ∙ rw (c.counts, c.clock)

  -- Else the rest together.
  pub out-pass : (miscounts n m || clock_past r) ≡ false → (places tasks handlers late : Bool)
      → places ≡ places_used r → tasks ≡ tasks_out → handlers ≡ handlers_out → late ≡ (late_wrong r || late_named r)
      → (places || tasks || handlers || late) ≡ out_of_bounds r
  out-pass in-range places tasks handlers late ep et eh el =
      rw (ep, et, eh, el)
      (same_test (places_used r || tasks_out || handlers_out || (late_wrong r || late_named r)) (out_of_bounds r) to from)
    where
      to : (places_used r || tasks_out || handlers_out || (late_wrong r || late_named r)) ≡ false → InBounds r
      to e =
          let begin = neither (miscounts n m) (clock_past r) in-range in
          let u3 = neither (places_used r || tasks_out || handlers_out) (late_wrong r || late_named r) e in
          let u2 = neither (places_used r || tasks_out) handlers_out u3.0 in
          let u1 = neither (places_used r) tasks_out u2.0 in
          let ends = neither (late_wrong r) (late_named r) u3.1 in
          in_bounds r (pass-clauses u1.1 u2.1 begin.0 begin.1 u1.0 ends.0 ends.1)

      from : InBounds r → (places_used r || tasks_out || handlers_out || (late_wrong r || late_named r)) ≡ false
      from e = let c = clauses r e in rw (c.places, clauses-tasks c, clauses-handlers c, c.late, c.named)
