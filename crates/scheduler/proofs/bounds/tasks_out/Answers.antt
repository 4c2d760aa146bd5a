use mathlib.Core.Path.{sym, ap, ◌∙◌}
use lib.ListN.{get_or}
use Rattle.demand.specs.Rows.{Row}
use Rattle.scheduler.specs.Inside.OnePass.{task_out}
use Rattle.scheduler.proofs.Steps.Scan.{any-zero, any-turn}
use Rattle.scheduler.proofs.bounds.tasks_out.Goals as goal

pub loop-k-init : goal.loop-k-init
loop-k-init c = sym (any-zero _)

pub loop-k-preserved : goal.loop-k-preserved
loop-k-preserved c =
    let run = c.args.run.now in
    let k = c.loop-k.k in
    let row = ap (λ (w : Row). task_out run.clock c.args.first w (get_or run.next k 0) (get_or run.due k 0) (get_or run.owed k 0)) c.task-row.ensures in
    any-turn _ _ _ _ c.loop-k.invariant (c.task_out-bad.ensures ∙ row)
