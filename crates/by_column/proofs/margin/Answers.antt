use Rattle.columns.proofs.Lent.{from-rows, from-counts}
use Rattle.columns.specs.Order.{row_order}
use Rattle.demand.specs.Answers.{MarginSays}
use Rattle.demand.specs.Refusals.{asked_refusal}
use Rattle.demand.specs.Rows.{tasks_of, handlers_of}
use Rattle.demand.specs.declared.table.Kind.TheVariants.{Task, Handler}
use Rattle.by_column.proofs.Alike.{margin-alike}
use Rattle.by_column.proofs.margin.Goals as goal

pub returns-in-Some : goal.returns-in-Some
returns-in-Some c =
    let told = rw (c.as_slice.ensures, c.as_slice-in-Some.ensures) at c.margin.ensures in
    from-rows _ _ _ c.in-Some.ensures (λ t h. MarginSays (asked_refusal t h c.args.l) (tasks_of t) (handlers_of h) c.args.l c.margin.result) told

pub returns-in-None : goal.returns-in-None
returns-in-None c =
    margin-alike _ _ _ _ (from-counts _ _ c.in-None.ensures) (tasks_of c.args.tasks.now) (handlers_of c.args.handlers.now) (tasks_of (row_order Task c.args.tasks.now)) (handlers_of (row_order Handler c.args.handlers.now)) c.args.l _ c.margin-in-None.ensures
