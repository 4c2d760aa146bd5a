use lib.ListN.{length}
use Rattle.charges.proofs.formula.+bounds.Given as goal

abbrev pub decreases-bounds : goal.decreases-bounds
decreases-bounds l = length l.handlers.now
