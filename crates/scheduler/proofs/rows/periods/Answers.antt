use mathlib.Core.Path.{refl, ap}
use Rattle.demand.specs.Rows.{Row}
use Rattle.scheduler.specs.Inside.Keys.{periods_of}
use Rattle.scheduler.specs.Scans.{filled}
use Rattle.scheduler.proofs.Steps.Keys.{periods-next}
use Rattle.scheduler.proofs.rows.periods.Goals as goal

pub loop-k-init : goal.loop-k-init
unfolding periods_of filled
loop-k-init c = refl

pub loop-k-preserved : goal.loop-k-preserved
loop-k-preserved c = periods-next _ _ _ _ c.loop-k.invariant (ap (λ (r : Row). r.period) c.task.ensures)
