use lib.ListN.{length}
use Rattle.verdict.proofs.load.+slack.Given as goal

abbrev pub decreases-slack : goal.decreases-slack
decreases-slack l = length l.tasks.now
