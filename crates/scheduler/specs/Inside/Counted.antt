-- What private functions may count on, once a run has been found in bounds.
--   Fitting n m          n tasks and m handlers are no more than a run has places for
--   TableFair t h n m    they are, and no figure and no deadline of theirs is out of its range
--   owed_most             == the most work that a row is owed: the latest clock times the greatest cost
--   OwedInWord owed n    no row of the first n is owed more
--   Payable owed n ran   the one that runs is a row of the table and is owed work
use Rattle.std.specs.Prelude.{false, List, ◌≡◌, ℕ, ◌+◌, ◌*◌, ◌≤◌, ◌<◌, get_or}
use Rattle.demand.specs.Limits.{figure_most, tasks_most, handlers_most, ticks_most}
use Rattle.scheduler.specs.Bounds.{outside_at, deadline_outside_at}
use Rattle.scheduler.specs.Runs.{row_on}
use Rattle.scheduler.specs.Scans.{any}
use Rattle.scheduler.specs.declared.Ran.{Ran}
use Rattle.scheduler.specs.declared.Ran.TheVariants as ran

pub record Fitting (n m : ℕ) : Type 0 where
  pub tasks : n ≤ tasks_most
  pub handlers : m ≤ handlers_most

pub record TableFair (t h : List ℕ) (n m : ℕ) : Type 0 where
  pub fitting : Fitting n m
  pub figures : any (outside_at (row_on t h n)) (n + m) ≡ false
  pub own : any (deadline_outside_at (row_on t h n)) n ≡ false

abbrev pub owed_most : ℕ
owed_most = ticks_most * figure_most

abbrev pub OwedInWord : List ℕ → ℕ → Type 0
OwedInWord owed n = (k : ℕ) → k < n → get_or owed k 0 ≤ owed_most

unfoldable pub Payable : List ℕ → ℕ → Ran → Type 0
Payable owed n (ran.Handler i) = (i < handlers_most) × (0 < get_or owed (n + i) 0)
Payable owed n (ran.Task i) = (i < tasks_most) × (0 < get_or owed i 0)
Payable owed n ran.Idle = Unit
