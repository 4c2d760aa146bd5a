use mathlib.Core.Path.{◌≡◌}
use Rattle.scheduler.specs.Inside.OnePass.{handler_out_at}
use Rattle.scheduler.specs.Scans.{any}
use Rattle.scheduler.proofs.bounds.handlers_out.Given as goal

abbrev pub invariant-loop-i : goal.invariant-loop-i
invariant-loop-i l = l.bad ≡ any (handler_out_at l.run.clock l.run.handlers l.run.next l.run.owed l.run.task_count) l.i
