use mathlib.Core.Path.{sym}
use Rattle.advance.proofs.Firsts.{first-zero, first-turn}
use Rattle.advance.proofs.alone.first_due.Goals as goal

pub loop-k-init : goal.loop-k-init
loop-k-init c = sym (first-zero _ _)

pub loop-k-preserved : goal.loop-k-preserved
loop-k-preserved c = first-turn _ _ _ _ _ c.loop-k.invariant c.nearer-first.ensures
