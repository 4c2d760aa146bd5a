use mathlib.Core.Path.{sym}
use native.Mathlib.Omega.{arith}
use Rattle.demand.proofs.Inside.Slices.{width-least, rows-count}
use Rattle.demand.proofs.table.count.Goals as goal

pub nonzero_div-result : goal.nonzero_div-result
nonzero_div-result c = omega (arith, c.width.ensures, width-least c.args.kind)

pub returns : goal.returns
returns c = rw c.width.ensures (sym (rows-count c.args.kind c.args.s.now))
