use Rattle.advance.proofs.Turns.{Gone, pieces_left}
use Rattle.advance.proofs.advance.Given as goal

abbrev pub invariant-loop-left : goal.invariant-loop-left
invariant-loop-left l = Gone l.initial.at l.initial.left l.at l.left l.refusal

abbrev pub decreases-loop-left : goal.decreases-loop-left
decreases-loop-left l = pieces_left l.left l.refusal
