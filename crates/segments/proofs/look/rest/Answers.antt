use native.Mathlib.Omega.{arith}
use Rattle.demand.specs.Rows.{row_of}
use Rattle.segments.proofs.Looks.Figures.{wait-most}
use Rattle.segments.proofs.look.rest.Goals as goal

pub overflow_mul-result : goal.overflow_mul-result
overflow_mul-result c = omega (arith, wait-most (row_of c.args.row) _ _ c.requires.0)

pub overflow_add-result : goal.overflow_add-result
overflow_add-result c =
    omega
    (arith, wait-most (row_of c.args.row) _ _ c.requires.0, c.requires.1.fits, c.requires.0.fair.period.most)
