use lib.ListN.{length}
use Rattle.priority.proofs.ranks.+work.Given as goal

abbrev pub decreases-work : goal.decreases-work
decreases-work l = length l.s.now
