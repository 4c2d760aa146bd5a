use mathlib.Core.Path.{◌≡◌}
use mathlib.Core.Bool.{false}
use Rattle.scheduler.specs.Scans.{any}
use Rattle.scheduler.specs.Tick.{owed_at}
use Rattle.scheduler.proofs.tick.goes_to.Given as goal

abbrev pub invariant-loop-i : goal.invariant-loop-i
invariant-loop-i l = any (owed_at l.run.owed l.run.task_count) l.i ≡ false
