-- Rows by place, as the code reads them.
use mathlib.Core.Bool.{false}
use mathlib.Core.Path.{◌≡◌}
use mir.Syntax.{w64}
use mir.Val.{Fits}
use native.Mathlib.Nat.{mul-le-mul}
use native.Mathlib.Omega.{arith}
use Prim.Native.Nat.{ℕ, ◌*◌, ◌≤◌, ◌<◌}
use Rattle.demand.proofs.Refusals.{fair-row, sound-row}
use Rattle.demand.proofs.Inside.Slices.{width-most}
use Rattle.demand.specs.Limits.{figure_most, tasks_most, ticks_most}
use Rattle.demand.specs.Refusals.{FairRow}
use Rattle.demand.specs.Rows.{Row, width, Sound}
use Rattle.demand.specs.declared.table.Kind.{Kind}
use Rattle.scheduler.specs.Bounds.{outside_at, deadline_outside_at}
use Rattle.scheduler.specs.Runs.{task_numbers}
use Rattle.scheduler.specs.Scans.{any}
use Rattle.scheduler.proofs.Steps.Scan.{any_at}

-- So many rows have no more numbers than a run has room for.
pub numbers_fit : (kind : Kind) (count : ℕ) → count ≤ tasks_most → width kind * count ≤ task_numbers
numbers_fit kind count few = mul-le-mul (width-most kind) few

-- No figure is out of its range: the row at each place is fair.
pub fair-at : (row : ℕ → Row) (n k : ℕ) → any (outside_at row) n ≡ false → k < n → FairRow (row k)
fair-at row n k h l = fair-row (row k) (any_at (outside_at row) n k h l)

-- No deadline is out of its range: that of the task at each place is from 1 to its period.
pub sound-at : (row : ℕ → Row) (n k : ℕ) → any (deadline_outside_at row) n ≡ false → k < n → Sound (row k)
sound-at row n k h l = sound-row (row k) (any_at (deadline_outside_at row) n k h l)

-- A clock times a cost fits a word.
pub fits-product : (clock cost : ℕ) → clock ≤ ticks_most → cost ≤ figure_most → Fits w64 (clock * cost)
fits-product clock cost a b = record { fits = omega (arith, mul-le-mul a b) }
