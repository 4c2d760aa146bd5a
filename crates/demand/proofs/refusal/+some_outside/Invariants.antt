use lib.ListN.{length}
use Rattle.demand.proofs.refusal.+some_outside.Given as goal

abbrev pub decreases-some_outside : goal.decreases-some_outside
decreases-some_outside l = length l.s.now
