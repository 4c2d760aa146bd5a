use Rattle.walk.specs.Queue.{to_come}
use Rattle.walk.proofs.Taking.{Taking}
use Rattle.walk.proofs.take_to.Given as goal

abbrev pub invariant-loop-q : goal.invariant-loop-q
invariant-loop-q l = Taking l.n l.initial.q l.sum l.q l.s

abbrev pub decreases-loop-q : goal.decreases-loop-q
decreases-loop-q l = to_come l.q l.n
