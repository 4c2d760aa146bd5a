use lib.ListN.{length}
use Rattle.verdict.proofs.load.+work.Given as goal

abbrev pub decreases-work : goal.decreases-work
decreases-work l = length l.s.now
