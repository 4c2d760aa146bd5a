use lib.ListN.{length}
use Rattle.verdict.proofs.load.+costs.Given as goal

abbrev pub decreases-costs : goal.decreases-costs
decreases-costs l = length l.handlers.now
