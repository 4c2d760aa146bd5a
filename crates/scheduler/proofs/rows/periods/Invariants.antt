use mathlib.Core.Path.{◌≡◌}
use Rattle.scheduler.specs.Inside.Keys.{periods_of}
use Rattle.scheduler.proofs.rows.periods.Given as goal

abbrev pub invariant-loop-k : goal.invariant-loop-k
invariant-loop-k l = l.all ≡ periods_of l.run.tasks l.k
