use Rattle.verdict.proofs.Inside.Drain.{tasks-can, handlers-can, taken-both}
use Rattle.verdict.proofs.drain.take_to.Goals as goal

pub take_to-s-requires : goal.take_to-s-requires
take_to-s-requires c = tasks-can _ _ _ _ c.requires

pub take_to-requires : goal.take_to-requires
take_to-requires c = handlers-can _ _ _ _ c.requires _ _ c.take_to-s.ensures

pub shape_of-a : goal.shape_of-a
shape_of-a c = c.take_to-s.ensures.long

pub shape_of-b : goal.shape_of-b
shape_of-b c = c.take_to.ensures.long

pub returns : goal.returns
returns c = taken-both _ _ _ _ c.requires _ _ c.take_to-s.ensures _ _ c.take_to.ensures
