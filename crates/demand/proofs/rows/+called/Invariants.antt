use lib.ListN.{length}
use Rattle.demand.proofs.rows.+called.Given as goal

abbrev pub decreases-called : goal.decreases-called
decreases-called l = length l.s.now
