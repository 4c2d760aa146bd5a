use lib.ListN.{length}
use Rattle.charges.proofs.ways.+summed.Given as goal

abbrev pub decreases-summed : goal.decreases-summed
decreases-summed l = length l.tasks.now
