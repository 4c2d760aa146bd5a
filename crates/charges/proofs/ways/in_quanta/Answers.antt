use mathlib.Core.Path.{◌∙◌}
use native.Mathlib.Omega.{arith}
use Rattle.demand.proofs.Divide.{div_ceil-ceil}
use Rattle.charges.proofs.Growth.{quanta-most}
use Rattle.charges.proofs.ways.in_quanta.Goals as goal

pub overflow_mul-result : goal.overflow_mul-result
overflow_mul-result c =
    let useful = c.requires.useful in
    rw (c.div_ceil.ensures ∙ div_ceil-ceil _ _ useful.some) (grind (arith, quanta-most, useful.some, useful.short, c.requires.cost))

pub returns : goal.returns
returns c = grind (arith, c.div_ceil.ensures ∙ div_ceil-ceil _ _ c.requires.useful.some)
