use mathlib.Core.Path.{◌≡◌}
use Rattle.demand.specs.Rows.{row_at}
use Rattle.guarantees.specs.Patterns.{rows_in}
use Rattle.machine.specs.Schedules.{beat}
use Rattle.scheduler.specs.Scans.{filled}
use Rattle.own_segments.proofs.arrivals.beats.Given as goal

abbrev pub invariant-loop-k : goal.invariant-loop-k
invariant-loop-k l = l.ws ≡ filled (λ j. beat l.tick (row_at (rows_in l.tasks l.handlers) j)) l.k l.initial.ws
