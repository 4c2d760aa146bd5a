use lib.ListN.{length}
use Rattle.demand.proofs.refusal.+some_deadline_outside.Given as goal

abbrev pub decreases-some_deadline_outside : goal.decreases-some_deadline_outside
decreases-some_deadline_outside l = length l.tasks.now
