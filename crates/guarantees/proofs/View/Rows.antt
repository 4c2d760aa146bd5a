-- The rows of a run are the rows of its state, place by place.
--   Rows r a n rs   rs are the n rows of run r from place a on
use mathlib.Core.List.{List}
use mathlib.Core.Path.{◌≡◌, sym, ◌∙◌}
use native.Mathlib.Nat.{zero-add}
use native.Mathlib.Omega.{arith}
use borrow.Author.Tests.{lt-ltb, le-ltb}
use Prim.Native.Nat.{ℕ, ◌+◌, ◌-◌, ◌*◌, ◌≤◌, ◌<◌}
use lib.ListN.{length, take}
use lib.Seq.{length-take-le, get_or-take}
use Rattle.demand.specs.Limits.{tasks_most}
use Rattle.demand.proofs.Inside.Places.{rows_take, each_at}
use Rattle.demand.proofs.Inside.Slices.{rows-count, handlers-plain}
use Rattle.demand.specs.Rows.{Row, tasks_of, handlers_of, rows_of, width, row_at, no_row}
use Rattle.demand.specs.declared.table.Kind.{Kind}
use Rattle.demand.specs.declared.table.Kind.TheVariants.{Task, Handler}
use Rattle.machine.specs.Inside.Listed.{Listed}
use Rattle.scheduler.specs.Reached.{WellMade}
use Rattle.scheduler.specs.Runs.{row_in, task_rows, handler_rows, row_places}
use Rattle.scheduler.specs.Inside.Counted.{Fitting}
use Rattle.guarantees.specs.View.{part}
use Rattle.scheduler.specs.declared.Run.{Run}
use Rattle.scheduler.proofs.Steps.Clauses.{clauses, clauses-fit}
use Rattle.guarantees.proofs.View.Parts.{part_length}

pub record Rows (r : Run) (a n : ℕ) (rs : List Row) : Type 0 where
  pub count : length rs ≡ n
  pub within : a + n ≤ row_places
  pub row-at : (i : ℕ) → i < n → row_at rs i ≡ row_in r (a + i)

-- They are as many as they should be, and the row at each place stays.
taken-count : (kind : Kind) (s : List ℕ) (n : ℕ) → width kind * n ≤ length s → length (rows_of kind (take (width kind * n) s)) ≡ n
taken-count Task s n long = rw (rows_take Task s n) (length-take-le n (tasks_of s) (omega (arith, rows-count Task s)))
taken-count Handler s n long = rw (rows_take Handler s n) (length-take-le n (handlers_of s) (omega (arith, rows-count Handler s)))

taken-row : (kind : Kind) (s : List ℕ) (n i : ℕ) → i < n → row_at (rows_of kind (take (width kind * n) s)) i ≡ row_at (rows_of kind s) i
taken-row kind s n i l = rw (rows_take kind s n) (get_or-take n (rows_of kind s) i no_row l)

-- A run in bounds has places for its rows.
pub well-made-fits : (r : Run) → WellMade r → Fitting r.task_count r.handler_count
well-made-fits r s = clauses-fit r (clauses r s.in_bounds)

module _ (r : Run) (s : WellMade r) where
  pub task-rows : Rows r 0 r.task_count (task_rows r)
  unfolding task_rows
  task-rows =
      let n : ℕ = r.task_count in
      let few : n ≤ tasks_most = (well-made-fits r s).tasks in
      record {
        count = taken-count Task r.tasks n (omega (arith, s.shaped.tasks-long));
        within = omega arith;
        row-at = λ i l. rw (zero-add i, lt-ltb i n l) (taken-row Task r.tasks n i l);
      }

  pub handler-rows : Rows r r.task_count r.handler_count (handler_rows r)
  unfolding handler_rows
  handler-rows =
      let n : ℕ = r.task_count in
      let m : ℕ = r.handler_count in
      let fit = well-made-fits r s in
      record {
        count = taken-count Handler r.handlers m (omega (arith, s.shaped.handlers-long, fit.handlers));
        within = omega (arith, fit.tasks, fit.handlers);
        row-at = λ i l.
            let behind : n + i - n ≡ i = omega arith in
            rw (le-ltb (n + i) n (omega arith), behind) (taken-row Handler r.handlers m i l);
      }

  -- A handler has its period to run.
  pub handler-deadline : (i : ℕ) → i < r.handler_count → (row_in r (r.task_count + i)).deadline ≡ (row_in r (r.task_count + i)).period
  handler-deadline i l =
      let n : ℕ = r.task_count in
      let behind : n + i - n ≡ i = omega arith in
      let here : i < length (handlers_of r.handlers) = omega (arith, rows-count Handler r.handlers, s.shaped.handlers-long, (well-made-fits r s).handlers) in
      rw (le-ltb (n + i) n (omega arith), behind) (each_at (λ (x : Row). x.deadline ≡ x.period) (handlers_of r.handlers) (handlers-plain r.handlers) i here)

-- Parts of lists with a number for each place fit them, beside as many deadlines.
pub rows_fit : {r : Run} {a n : ℕ} {rs : List Row} → Rows r a n rs → (ns ds os : List ℕ) → length ns ≡ row_places → length ds ≡ n → length os ≡ row_places
    → Listed rs (part a n ns) ds (part a n os)
rows_fit {r} {a} {n} {rs} w ns ds os ln ld lo = record {
  nexts = part_length a n ns (omega (arith, w.within)) ∙ sym w.count;
  dues = ld ∙ sym w.count;
  owes = part_length a n os (omega (arith, w.within)) ∙ sym w.count;
}
