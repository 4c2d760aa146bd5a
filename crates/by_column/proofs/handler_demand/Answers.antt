use Rattle.columns.proofs.Lent.{from-rows, from-counts}
use Rattle.columns.specs.Order.{row_order}
use Rattle.demand.specs.Answers.{HandlerSays}
use Rattle.demand.specs.Refusals.{asked_refusal}
use Rattle.demand.specs.Rows.{handlers_of}
use Rattle.demand.specs.declared.table.Kind.TheVariants.{Handler}
use Rattle.by_column.proofs.Alike.{handler-alike}
use Rattle.by_column.proofs.handler_demand.Goals as goal

pub returns-in-Some : goal.returns-in-Some
returns-in-Some c =
    let told = rw (c.as_slice.ensures, c.as_slice-in-Some.ensures) at c.handler_demand.ensures in
    from-rows _ _ _ c.in-Some.ensures (λ t h. HandlerSays (asked_refusal t h c.args.l) (handlers_of h) c.args.l c.handler_demand.result) told

pub returns-in-None : goal.returns-in-None
returns-in-None c =
    handler-alike _ _ _ _ (from-counts _ _ c.in-None.ensures) (handlers_of c.args.handlers.now) (handlers_of (row_order Handler c.args.handlers.now)) c.args.l _ c.handler_demand-in-None.ensures
