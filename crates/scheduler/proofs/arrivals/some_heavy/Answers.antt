use mathlib.Core.Path.{sym, ap}
use Rattle.demand.specs.Rows.{Row}
use Rattle.scheduler.proofs.Steps.Scan.{any-zero, any-turn}
use Rattle.scheduler.proofs.arrivals.some_heavy.Goals as goal

pub loop-k-init : goal.loop-k-init
loop-k-init c = sym (any-zero _)

pub loop-k-preserved : goal.loop-k-preserved
loop-k-preserved c = any-turn _ _ _ _ c.loop-k.invariant (simp (c.from.ensures, ap (λ (r : Row). r.cost) c.row_at.ensures))
