use mathlib.Core.Path.{refl}
use native.Mathlib.Omega.{arith}
use lib.ListN.{length-set}
use Rattle.charge_tables.proofs.list.keep.Goals as goal

pub returns-then-count-buf : goal.returns-then-count-buf
returns-then-count-buf c = (omega (arith, length-set c.args.buf.now c.args.count c.args.b, c.if-count-buf.true), length-set c.args.buf.now c.args.count c.args.b)

pub returns-else-count-buf : goal.returns-else-count-buf
returns-else-count-buf c = (c.requires, refl)
