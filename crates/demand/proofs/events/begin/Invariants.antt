use lib.ListN.{length}
use Rattle.demand.proofs.Inside.Events.{Beginning}
use Rattle.demand.proofs.events.begin.Given as goal

abbrev pub invariant-loop-rest : goal.invariant-loop-rest
invariant-loop-rest l = Beginning l.kind l.event l.s (length l.initial.q) l.rest l.q l.k

abbrev pub decreases-loop-rest : goal.decreases-loop-rest
decreases-loop-rest l = length l.rest
