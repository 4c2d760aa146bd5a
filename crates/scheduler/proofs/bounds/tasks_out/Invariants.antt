use mathlib.Core.Path.{◌≡◌}
use Rattle.scheduler.specs.Inside.OnePass.{task_out_at}
use Rattle.scheduler.specs.Scans.{any}
use Rattle.scheduler.proofs.bounds.tasks_out.Given as goal

abbrev pub invariant-loop-k : goal.invariant-loop-k
invariant-loop-k l = l.bad ≡ any (task_out_at l.run.clock l.first l.run.tasks l.run.next l.run.due l.run.owed) l.k
