use mathlib.Core.Path.{sym, ap, ◌∙◌}
use Prim.Native.Nat.{◌+◌}
use lib.ListN.{get_or}
use Rattle.demand.specs.Rows.{Row}
use Rattle.scheduler.specs.Inside.OnePass.{handler_out}
use Rattle.scheduler.proofs.Steps.Scan.{any-zero, any-turn}
use Rattle.scheduler.proofs.bounds.handlers_out.Goals as goal

pub loop-i-init : goal.loop-i-init
loop-i-init c = sym (any-zero _)

pub loop-i-preserved : goal.loop-i-preserved
loop-i-preserved c =
    let run = c.args.run.now in
    let k = run.task_count + c.loop-i.i in
    let row = ap (λ (w : Row). handler_out run.clock w (get_or run.next k 0) (get_or run.owed k 0)) c.handler-row.ensures in
    any-turn _ _ _ _ c.loop-i.invariant (c.handler_out-bad.ensures ∙ row)
