use mathlib.Core.Path.{◌≡◌}
use Rattle.scheduler.specs.Scans.{at}
use Rattle.scheduler.specs.Tick.{earliest}
use Rattle.scheduler.proofs.tick.earliest.Given as goal

abbrev pub invariant-loop-k : goal.invariant-loop-k
invariant-loop-k l = l.best ≡ earliest (at l.keys) l.owed l.k
