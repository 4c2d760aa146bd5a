use Prim.Native.Nat.{◌-◌}
use lib.ListN.{length}
use Rattle.own_segments.proofs.Walks.{Walked}
use Rattle.own_segments.proofs.draw.Given as goal

abbrev pub invariant-loop-clock : goal.invariant-loop-clock
invariant-loop-clock l = Walked l.tasks l.handlers l.span l.room (length l.initial.out) l.at l.clock l.pen l.out

abbrev pub decreases-loop-clock : goal.decreases-loop-clock
decreases-loop-clock l = l.span - l.clock
