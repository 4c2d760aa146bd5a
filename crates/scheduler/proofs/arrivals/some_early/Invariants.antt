use mathlib.Core.Path.{◌≡◌}
use Rattle.scheduler.specs.Scans.{any}
use Rattle.scheduler.specs.Steps.{early}
use Rattle.scheduler.proofs.arrivals.some_early.Given as goal

abbrev pub invariant-loop-k : goal.invariant-loop-k
invariant-loop-k l = l.bad ≡ any (early l.run.clock l.run.next l.arrivals) l.k
