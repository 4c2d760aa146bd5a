use native.Mathlib.Omega.{arith}
use Rattle.demand.proofs.Inside.Slices.{width-least}
use Rattle.demand.proofs.refusal.uneven.Goals as goal

pub nonzero_rem-result : goal.nonzero_rem-result
nonzero_rem-result c = omega (arith, c.width.ensures, width-least c.args.kind)

pub returns : goal.returns
returns c = rw c.width.ensures
