use mathlib.Core.Path.{sym}
use Rattle.scheduler.proofs.Steps.Earliest.{earliest-zero, earliest-next}
use Rattle.scheduler.proofs.tick.earliest.Goals as goal

pub loop-k-init : goal.loop-k-init
loop-k-init c = sym (earliest-zero _ _)

pub loop-k-preserved : goal.loop-k-preserved
loop-k-preserved c = simp (earliest-next, c.better-best.ensures, c.loop-k.invariant)
