use native.Mathlib.Omega.{arith}
use Rattle.demand.specs.Rows.{row_of, tasks_of, handlers_of}
use Rattle.demand.specs.declared.table.Kind.TheVariants.{Task}
use Rattle.demand.proofs.Inside.Slices.{part-shorter, fair-head, small-part}
use Rattle.charges.specs.Inside.{way_cost}
use Rattle.charges.proofs.Totals.{sums-short, sums-head, periods-total, rest-total}
use Rattle.charges.proofs.WholePeriods.{rest-most}
use Rattle.charges.proofs.ways.+summed.Goals as goal

pub returns-then-tasks-own : goal.returns-then-tasks-own
returns-then-tasks-own t c = sums-short (way_cost c.args.way (handlers_of c.args.handlers.now)) c.args.h c.args.tasks.now (omega (arith, c.if-tasks-own.true, c.width-own.ensures))

pub head-task-requires : goal.head-task-requires
head-task-requires t c = omega (arith, c.width-own.ensures)

pub summed-later-requires : goal.summed-later-requires
summed-later-requires t c =
    let s = c.args.tasks.now in (
      omega (arith, part-shorter Task s _ c.width-own.ensures (omega arith)),
      (c.requires.0, small-part Task s _ c.head-task.ensures _ c.width-own.ensures _ c.requires.1, c.requires.2),
    )

pub grown-cost-requires : goal.grown-cost-requires
grown-cost-requires t c = (c.requires.0, fair-head Task c.args.tasks.now _ c.head-task.ensures _ c.requires.1, c.requires.2)

pub nonzero_div-result : goal.nonzero_div-result
nonzero_div-result t c = (fair-head Task c.args.tasks.now _ c.head-task.ensures _ c.requires.1).period.least

pub overflow_add-result : goal.overflow_add-result
overflow_add-result t c =
    let hs = handlers_of c.args.handlers.now in
    let sums = sums-head (way_cost c.args.way hs) c.args.h c.args.tasks.now (row_of c.head-task.result) c.head-task.ensures _ c.width-own.ensures _ _ c.grown-cost.ensures c.summed-later.ensures in
    omega (arith, sums.periods, periods-total c.args.way hs c.requires.0 c.requires.2 (tasks_of c.args.tasks.now) c.requires.1.rows c.requires.1.count)

pub nonzero_rem-result : goal.nonzero_rem-result
nonzero_rem-result t c = (fair-head Task c.args.tasks.now _ c.head-task.ensures _ c.requires.1).period.least

pub nonzero_div-result-2 : goal.nonzero_div-result-2
nonzero_div-result-2 t c = (fair-head Task c.args.tasks.now _ c.head-task.ensures _ c.requires.1).period.least

pub overflow_mul-result : goal.overflow_mul-result
overflow_mul-result t c =
    omega (arith, rest-most c.grown-cost.result c.head-task.result.period c.args.h (fair-head Task c.args.tasks.now _ c.head-task.ensures _ c.requires.1).period.least, c.requires.1.ticks)

pub overflow_add-result-2 : goal.overflow_add-result-2
overflow_add-result-2 t c =
    let hs = handlers_of c.args.handlers.now in
    let sums = sums-head (way_cost c.args.way hs) c.args.h c.args.tasks.now (row_of c.head-task.result) c.head-task.ensures _ c.width-own.ensures _ _ c.grown-cost.ensures c.summed-later.ensures in
    omega (arith, sums.rest, c.requires.1.ticks, rest-total c.args.way hs c.requires.0 c.requires.2 (tasks_of c.args.tasks.now) c.requires.1.rows c.requires.1.count c.args.h)

pub returns : goal.returns
returns t c =
    sums-head (way_cost c.args.way (handlers_of c.args.handlers.now)) c.args.h c.args.tasks.now (row_of c.head-task.result) c.head-task.ensures _ c.width-own.ensures _ _ c.grown-cost.ensures c.summed-later.ensures
