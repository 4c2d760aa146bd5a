use mathlib.Core.Path.{◌∙◌}
use borrow.Author.Tests.{lt-ltb}
use native.Mathlib.Omega.{arith}
use Rattle.demand.specs.Rows.{row_of}
use Rattle.demand.proofs.Divide.{div_ceil-ceil}
use Rattle.demand.proofs.Inside.Sizes.{called-by-most}
use Rattle.priority.specs.Inside.Ranks.{rank}
use Rattle.priority.proofs.ranks.work_by.Goals as goal

pub overflow_mul-result : goal.overflow_mul-result
overflow_mul-result c =
    rw (c.div_ceil.ensures ∙ div_ceil-ceil _ _ c.requires.1.period.least)
    (omega (arith, called-by-most c.args.l (row_of c.args.row) c.requires.2 c.requires.1))

pub returns-then-rank-end : goal.returns-then-rank-end
returns-then-rank-end c =
    let x = c.args in
    rw (c.div_ceil.ensures ∙ div_ceil-ceil _ _ c.requires.1.period.least)
    (simp (lt-ltb (rank x.j (row_of x.row)) x.end (omega (arith, c.if-rank-end.true, c.rank.ensures))))
