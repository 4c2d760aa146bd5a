use mathlib.Core.Path.{◌≡◌}
use mathlib.Core.Bool.{false}
use Rattle.scheduler.specs.Scans.{at, any}
use Rattle.scheduler.specs.Tick.{is_late}
use Rattle.scheduler.proofs.tick.late_row.Given as goal

abbrev pub invariant-loop-k : goal.invariant-loop-k
invariant-loop-k l = any (is_late l.run.clock (at l.run.due) l.run.owed) l.k ≡ false
