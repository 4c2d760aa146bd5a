use mathlib.Core.Path.{◌≡◌}
use lib.ListN.{get_or}
use Rattle.scheduler.specs.Runs.{row_in}
use Rattle.scheduler.specs.Scans.{filled}
use Rattle.scheduler.specs.Tick.{due_after}
use Rattle.scheduler.proofs.arrivals.move_due.Given as goal

abbrev pub invariant-loop-k : goal.invariant-loop-k
invariant-loop-k l = l.due ≡ filled (λ j. due_after l.run.clock (row_in l.run j) (get_or l.arrivals j 0) (get_or l.initial.due j 0)) l.k l.initial.due
