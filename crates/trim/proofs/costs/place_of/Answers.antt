use mathlib.Core.Path.{refl}
use native.Mathlib.Omega.{arith}
use Rattle.trim.proofs.costs.place_of.Goals as goal

pub overflow_mul-result : goal.overflow_mul-result
overflow_mul-result c = rw c.width.ensures (omega arith)

pub returns : goal.returns
returns c = rw c.width.ensures refl
