use mathlib.Core.Path.{sym}
use native.Mathlib.Omega.{arith}
use Rattle.demand.specs.Rows.{rows_of}
use Rattle.demand.proofs.Inside.Slices.{part-shorter, total-short, total_head, fair-head, small-part}
use Rattle.verdict.specs.Loads.{work_by, work}
use Rattle.verdict.proofs.Loads.{work-by-most, work-most}
use Rattle.verdict.proofs.load.+work.Goals as goal

pub returns-then-s-own : goal.returns-then-s-own
unfolding work
returns-then-s-own t c =
    sym (total-short c.args.kind c.args.s.now (omega (arith, c.if-s-own.true, c.width-own.ensures)) (work_by c.args.h))

pub head-row-requires : goal.head-row-requires
head-row-requires t c = omega (arith, c.width-own.ensures)

pub work-rest-requires : goal.work-rest-requires
work-rest-requires t c =
    let kind = c.args.kind in
    let s = c.args.s.now in
    (omega (arith, part-shorter kind s _ c.width-own.ensures (omega arith)), small-part kind s _ c.head-row.ensures _ c.width-own.ensures _ c.requires)

pub nonzero_div-result : goal.nonzero_div-result
nonzero_div-result t c =
    (fair-head c.args.kind c.args.s.now _ c.head-row.ensures _ c.requires).period.least

pub overflow_mul-result : goal.overflow_mul-result
overflow_mul-result t c =
    let fair = fair-head c.args.kind c.args.s.now _ c.head-row.ensures _ c.requires in
    omega (arith, work-by-most c.args.h _ fair, c.requires.ticks)

pub overflow_add-result : goal.overflow_add-result
unfolding work
overflow_add-result t c =
    let sum = total_head c.args.kind c.args.s.now _ c.head-row.ensures _ c.width-own.ensures (work_by c.args.h) _ c.work-rest.ensures in
    omega (arith, sum, work-most c.args.h 64 (rows_of c.args.kind c.args.s.now) c.requires.rows c.requires.count, c.requires.ticks)

pub returns : goal.returns
unfolding work
returns t c =
    total_head c.args.kind c.args.s.now _ c.head-row.ensures _ c.width-own.ensures (work_by c.args.h) _ c.work-rest.ensures
