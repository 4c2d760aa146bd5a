use mathlib.Core.Path.{sym}
use native.Mathlib.Omega.{arith}
use borrow.Author.Rules.{rules}
use Rattle.scheduler.specs.Tick.{owed_arrived}
use Rattle.scheduler.proofs.Steps.Scan.{filled_zero, filled-old, filled-turn, filled-end}
use Rattle.scheduler.proofs.arrivals.add_work.Goals as goal

pub loop-k-init : goal.loop-k-init
loop-k-init c = sym (filled_zero _ _)

pub overflow_add-owed : goal.overflow_add-owed
overflow_add-owed c = omega (arith, filled-old _ _ _ _ c.loop-k.invariant, c.requires.1 c.loop-k.k c.loop-k-test.true, c.from.ensures)

pub loop-k-preserved : goal.loop-k-preserved
loop-k-preserved c = filled-turn _ _ _ _ _ c.loop-k.invariant (rw (c.from.ensures, filled-old _ _ _ _ c.loop-k.invariant))

pub returns : goal.returns
unfolding owed_arrived
returns c = filled-end _ _ _ _ _ (search rules) c.loop-k-test.false c.loop-k.invariant
