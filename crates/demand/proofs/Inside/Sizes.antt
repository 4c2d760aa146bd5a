-- Totals over fair rows fit a word.
use mathlib.Core.List.{List}
use mathlib.Core.Path.{◌≡◌}
use native.Mathlib.Nat.{mul-le-mul, le_trans}
use native.Mathlib.Omega.{arith}
use Prim.Native.Nat.{ℕ, ◌≤◌}
use lib.ListN.{length}
use Rattle.demand.specs.Demands.{called_by, within, due_by, called, due}
use Rattle.demand.specs.Inside.Sizes.{row_most, row_due_most, called_most, due_most, Small}
use Rattle.demand.specs.Limits.{handlers_most, ticks_most}
use Rattle.demand.specs.Refusals.{table_refusal, asked_refusal, FairRow}
use Rattle.demand.specs.Rows.{Row, tasks_of, handlers_of, Each, Positive, Valid}
use Rattle.demand.proofs.Divide.{ceil-le, within-most}
use Rattle.demand.proofs.Refusals.{refusal-in-range, asked-in-range}
use Rattle.demand.proofs.Sums.{each_map, total-most}

pub fair-positive : (rs : List Row) → Each FairRow rs → Positive rs
fair-positive rs f = each_map (λ r g. g.period.least) rs f

pub small-less : (rs : List Row) (l m : ℕ) → l ≤ m → Small rs m → Small rs l
small-less rs l m h s = record { rows = s.rows; count = s.count; ticks = omega (arith, s.ticks) }

-- One row: at most a million of cost for each of a thousand million ticks, and for one more.
pub due-by-most : (l : ℕ) (r : Row) → l ≤ ticks_most → FairRow r → due_by l r ≤ row_due_most
due-by-most l r h f =
    let few : within l r.deadline r.period ≤ 1000000001 = omega (arith, within-most l r.deadline r.period) in
    mul-le-mul f.cost.most few

pub called-by-most : (l : ℕ) (r : Row) → l ≤ ticks_most → FairRow r → called_by l r ≤ row_most
called-by-most l r h f = mul-le-mul f.cost.most (le_trans (ceil-le r.period l f.period.least) h)

pub due-most : (rs : List Row) (l : ℕ) → Small rs l → due rs l ≤ due_most
unfolding due
due-most rs l s = omega (arith, total-most row_due_most (due_by l) rs (each_map (λ r f. due-by-most l r s.ticks f) rs s.rows), s.count)

pub called-most : (rs : List Row) (l : ℕ) → Small rs l → called rs l ≤ called_most
unfolding called
called-most rs l s = omega (arith, total-most row_most (called_by l) rs (each_map (λ r f. called-by-most l r s.ticks f) rs s.rows), s.count)

-- The rows of a table without a refusal of its own.
module _ (t h : List ℕ) (e : table_refusal t h ≡ 0) where
  pub tasks-valid : Valid (tasks_of t)
  tasks-valid = (refusal-in-range t h e).deadlines

  pub handlers-positive : Positive (handlers_of h)
  handlers-positive = fair-positive (handlers_of h) (refusal-in-range t h e).handlers

-- The rows of a question that is answered.
module _ (t h : List ℕ) (l : ℕ) (e : asked_refusal t h l ≡ 0) where
  pub tasks-small : Small (tasks_of t) l
  tasks-small = let g = asked-in-range t h l e in record { rows = g.0.tasks; count = g.0.tasks-most; ticks = g.1 }

  pub handlers-small : Small (handlers_of h) l × (length (handlers_of h) ≤ handlers_most)
  handlers-small =
      let g = asked-in-range t h l e in
      (record { rows = g.0.handlers; count = omega (arith, g.0.handlers-most); ticks = g.1 }, g.0.handlers-most)
