use mathlib.Core.Path.{◌∙◌}
use native.Mathlib.Omega.{arith}
use Rattle.verdict.proofs.Inside.Drain.{climb-start, climb-far, climb-can, climb-turn, climb-up, climb-drained}
use Rattle.verdict.proofs.drain.climb.Goals as goal

pub loop-s-init : goal.loop-s-init
loop-s-init c = climb-start _ _ _ _ c.requires

pub take_to-more-requires : goal.take_to-more-requires
take_to-more-requires c = climb-can _ _ _ _ _ _ _ c.loop-s.invariant (omega arith)

pub shape_of-a-then-more-s : goal.shape_of-a-then-more-s
shape_of-a-then-more-s c = c.take_to-more.ensures.tasks-long ∙ c.loop-s.invariant.tasks-long

pub shape_of-b-then-more-s : goal.shape_of-b-then-more-s
shape_of-b-then-more-s c = c.take_to-more.ensures.handlers-long ∙ c.loop-s.invariant.handlers-long

pub returns-then-more-s : goal.returns-then-more-s
returns-then-more-s c = climb-drained _ _ _ _ _ _ _ c.loop-s.invariant (omega arith) _ _ _ c.take_to-more.ensures c.if-more-s.true

pub loop-s-smaller : goal.loop-s-smaller
loop-s-smaller c = omega (arith, c.if-more-s.false, climb-up _ _ _ _ _ _ _ c.loop-s.invariant (omega arith) _ _ _ c.take_to-more.ensures)

pub loop-s-preserved : goal.loop-s-preserved
loop-s-preserved c = climb-turn _ _ _ _ _ _ _ c.loop-s.invariant (omega arith) _ _ _ c.take_to-more.ensures

pub shape_of-a : goal.shape_of-a
shape_of-a c = c.loop-s.invariant.tasks-long

pub shape_of-b : goal.shape_of-b
shape_of-b c = c.loop-s.invariant.handlers-long

pub returns : goal.returns
returns c = climb-far _ _ _ _ _ _ _ c.loop-s.invariant (omega arith)
