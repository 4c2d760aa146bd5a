-- What no promise cites.
--   rows_by i t p   == the answer to a guard whose burst is in range, by its costs i and t and its gap p: its rows, or 3
use Rattle.std.specs.Prelude.{ℕ, Result, Err}
use Rattle.demand.specs.Tests.{pick}
use Rattle.demand.specs.declared.refusal.Refusal.{Refusal}
use Rattle.demand.specs.declared.refusal.Refusal.TheVariants.{RowOutOfRange}
use Rattle.guards.specs.Answers.{rows_told}
use Rattle.guards.specs.Guards.{rows_outside}
use Rattle.guards.specs.declared.Pair.{Pair}

unfoldable pub rows_by : ℕ → ℕ → ℕ → Result Pair Refusal
rows_by interrupt timer period = pick (rows_outside interrupt timer period) (Err RowOutOfRange) (rows_told interrupt timer period)
