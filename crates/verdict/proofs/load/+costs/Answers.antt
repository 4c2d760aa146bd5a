use mathlib.Core.Path.{sym}
use native.Mathlib.Omega.{arith}
use Rattle.demand.specs.Rows.{handlers_of}
use Rattle.demand.specs.declared.table.Kind.TheVariants.{Handler}
use Rattle.demand.proofs.Inside.Slices.{part-shorter, total-short, total_head, small-part}
use Rattle.verdict.specs.Loads.{costs}
use Rattle.verdict.proofs.Loads.{costs-most}
use Rattle.verdict.proofs.load.+costs.Goals as goal

pub returns-then-handlers-own : goal.returns-then-handlers-own
unfolding costs
returns-then-handlers-own t c = sym (total-short Handler _ (omega (arith, c.if-handlers-own.true, c.width-own.ensures)) _)

pub head-handler-requires : goal.head-handler-requires
head-handler-requires t c = omega (arith, c.width-own.ensures)

pub costs-rest-requires : goal.costs-rest-requires
costs-rest-requires t c =
    (omega (arith, part-shorter Handler c.args.handlers.now _ c.width-own.ensures (omega arith)), small-part Handler _ _ c.head-handler.ensures _ c.width-own.ensures _ c.requires)

pub overflow_add-result : goal.overflow_add-result
unfolding costs
overflow_add-result t c =
    let sum = total_head Handler _ _ c.head-handler.ensures _ c.width-own.ensures (λ r. r.cost) _ c.costs-rest.ensures in
    omega (arith, sum, costs-most (handlers_of c.args.handlers.now) c.requires.rows, c.requires.count)

pub returns : goal.returns
unfolding costs
returns t c =
    total_head Handler _ _ c.head-handler.ensures _ c.width-own.ensures (λ r. r.cost) _ c.costs-rest.ensures
