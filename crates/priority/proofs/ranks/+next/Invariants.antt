use lib.ListN.{length}
use Rattle.priority.proofs.ranks.+next.Given as goal

abbrev pub decreases-next : goal.decreases-next
decreases-next l = length l.tasks.now
