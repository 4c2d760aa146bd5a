use lib.ListN.{length}
use Rattle.demand.proofs.rows.+due.Given as goal

abbrev pub decreases-due : goal.decreases-due
decreases-due l = length l.tasks.now
