use mathlib.Core.Path.{◌≡◌}
use Rattle.scheduler.specs.Runs.{row_in}
use Rattle.scheduler.specs.Scans.{any}
use Rattle.scheduler.specs.Steps.{heavy}
use Rattle.scheduler.proofs.arrivals.some_heavy.Given as goal

abbrev pub invariant-loop-k : goal.invariant-loop-k
invariant-loop-k l = l.bad ≡ any (heavy (row_in l.run) l.arrivals) l.k
