use native.Mathlib.Omega.{arith}
use Rattle.scheduler.proofs.Steps.RowPlaces.{numbers_fit}
use Rattle.scheduler.proofs.rows.numbers.Goals as goal

pub overflow_mul-result : goal.overflow_mul-result
overflow_mul-result c = rw c.width.ensures (omega (arith, numbers_fit c.args.kind c.args.count c.requires))

pub returns : goal.returns
returns c = rw c.width.ensures
