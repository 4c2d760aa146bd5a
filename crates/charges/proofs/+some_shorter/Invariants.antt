use lib.ListN.{length}
use Rattle.charges.proofs.+some_shorter.Given as goal

abbrev pub decreases-some_shorter : goal.decreases-some_shorter
decreases-some_shorter l = length l.tasks.now
