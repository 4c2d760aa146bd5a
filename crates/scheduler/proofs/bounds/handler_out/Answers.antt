use native.Mathlib.Omega.{arith}
use Rattle.demand.proofs.Refusals.{fair-row}
use Rattle.demand.specs.Rows.{row_of}
use Rattle.scheduler.proofs.Steps.OnePass.{handler-figures, handler-rest}
use Rattle.scheduler.proofs.Steps.RowPlaces.{fits-product}
use Rattle.scheduler.proofs.bounds.handler_out.Goals as goal

pub returns-then-outside : goal.returns-then-outside
returns-then-outside c =
    let x = c.args in
    let out = rw (c.outside.ensures, c.outside-2.ensures) at c.if-outside.true in
    handler-figures x.clock 0 (row_of x.row) x.next 0 x.owed out

pub overflow_add-next_far : goal.overflow_add-next_far
overflow_add-next_far c =
    let clear = rw (c.outside.ensures, c.outside-2.ensures) at c.if-outside.false in
    omega (arith, (fair-row (row_of c.args.row) clear).period.most, c.requires)

pub overflow_mul-much : goal.overflow_mul-much
overflow_mul-much c =
    let clear = rw (c.outside.ensures, c.outside-2.ensures) at c.if-outside.false in
    fits-product _ _ c.requires (fair-row (row_of c.args.row) clear).cost.most

pub returns : goal.returns
returns c =
    let x = c.args in
    let clear = rw (c.outside.ensures, c.outside-2.ensures) at c.if-outside.false in
    handler-rest x.clock 0 (row_of x.row) x.next 0 x.owed clear
