use mathlib.Core.Path.{sym, ◌∙◌}
use native.Mathlib.Omega.{arith}
use Rattle.demand.specs.Demands.{called_by, called}
use Rattle.demand.specs.Rows.{row_of}
use Rattle.demand.proofs.Divide.{div_ceil-ceil}
use Rattle.demand.proofs.Inside.Sizes.{called-by-most, called-most}
use Rattle.demand.proofs.Inside.Slices.{part-shorter, total-short, total_head, fair-head, small-part}
use Rattle.demand.proofs.rows.+called.Goals as goal

pub width-own-requires : goal.width-own-requires
width-own-requires t c = tt

pub returns-then-s-own : goal.returns-then-s-own
unfolding called
returns-then-s-own t c =
    sym (total-short c.args.kind c.args.s.now (omega (arith, c.if-s-own.true, c.width-own.ensures)) (called_by c.args.l))

pub head-row-requires : goal.head-row-requires
head-row-requires t c = omega (arith, c.width-own.ensures)

pub called-rest-requires : goal.called-rest-requires
called-rest-requires t c =
    let kind = c.args.kind in
    let s = c.args.s.now in
    (omega (arith, part-shorter kind s _ c.width-own.ensures (omega arith)), small-part kind s _ c.head-row.ensures _ c.width-own.ensures _ c.requires)

pub div_ceil-requires : goal.div_ceil-requires
div_ceil-requires t c = (fair-head c.args.kind c.args.s.now _ c.head-row.ensures _ c.requires).period.least

pub overflow_mul-result : goal.overflow_mul-result
overflow_mul-result t c =
    let fair = fair-head c.args.kind c.args.s.now _ c.head-row.ensures _ c.requires in
    rw (c.div_ceil.ensures ∙ div_ceil-ceil _ _ fair.period.least) (omega (arith, called-by-most c.args.l (row_of c.head-row.result) c.requires.ticks fair))

pub overflow_add-result : goal.overflow_add-result
unfolding called
overflow_add-result t c =
    let fair = fair-head c.args.kind c.args.s.now _ c.head-row.ensures _ c.requires in
    let sum = total_head c.args.kind c.args.s.now _ c.head-row.ensures _ c.width-own.ensures (called_by c.args.l) _ c.called-rest.ensures in
    rw (c.div_ceil.ensures ∙ div_ceil-ceil _ _ fair.period.least) (omega (arith, sum, called-most _ _ c.requires))

pub returns : goal.returns
unfolding called
returns t c =
    let fair = fair-head c.args.kind c.args.s.now _ c.head-row.ensures _ c.requires in
    rw (c.div_ceil.ensures ∙ div_ceil-ceil _ _ fair.period.least)
    (total_head c.args.kind c.args.s.now _ c.head-row.ensures _ c.width-own.ensures (called_by c.args.l) _ c.called-rest.ensures)
