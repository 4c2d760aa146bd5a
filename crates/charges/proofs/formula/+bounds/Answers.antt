use mathlib.Core.Path.{sym}
use native.Mathlib.Omega.{arith}
use Rattle.demand.specs.Rows.{handlers_of}
use Rattle.demand.specs.declared.table.Kind.TheVariants.{Handler}
use Rattle.demand.proofs.Inside.Slices.{part-shorter, total-short, total_head, fair-head, small-part}
use Rattle.charges.specs.Ways.{bound, bounds}
use Rattle.charges.proofs.Bounded.{bounds-most}
use Rattle.charges.proofs.formula.+bounds.Goals as goal

pub returns-then-handlers-own : goal.returns-then-handlers-own
unfolding bounds
returns-then-handlers-own t c = sym (total-short Handler c.args.handlers.now (omega (arith, c.if-handlers-own.true, c.width-own.ensures)) (bound c.args.l))

pub head-handler-requires : goal.head-handler-requires
head-handler-requires t c = omega (arith, c.width-own.ensures)

pub bounds-rest-requires : goal.bounds-rest-requires
bounds-rest-requires t c =
    let s = c.args.handlers.now in
    (omega (arith, part-shorter Handler s _ c.width-own.ensures (omega arith)), small-part Handler s _ c.head-handler.ensures _ c.width-own.ensures _ c.requires)

pub bound-requires : goal.bound-requires
bound-requires t c = (fair-head Handler c.args.handlers.now _ c.head-handler.ensures _ c.requires, c.requires.ticks)

pub overflow_add-result : goal.overflow_add-result
unfolding bounds
overflow_add-result t c =
    let s = c.args.handlers.now in
    let l = c.args.l in
    let sum = total_head Handler s _ c.head-handler.ensures _ c.width-own.ensures (bound l) _ c.bounds-rest.ensures in
    omega (arith, sum, c.bound.ensures, bounds-most 64 l (handlers_of s) c.requires.rows c.requires.count, c.requires.ticks)

pub returns : goal.returns
unfolding bounds
returns t c =
    let s = c.args.handlers.now in
    omega (arith, c.bound.ensures, total_head Handler s _ c.head-handler.ensures _ c.width-own.ensures (bound c.args.l) _ c.bounds-rest.ensures)
