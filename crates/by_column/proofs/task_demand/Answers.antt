use Rattle.columns.proofs.Lent.{from-rows, from-counts}
use Rattle.columns.specs.Order.{row_order}
use Rattle.demand.specs.Answers.{DemandSays}
use Rattle.demand.specs.Demands.{due}
use Rattle.demand.specs.Refusals.{asked_refusal}
use Rattle.demand.specs.Rows.{tasks_of}
use Rattle.demand.specs.declared.table.Kind.TheVariants.{Task}
use Rattle.by_column.proofs.Alike.{demand-alike}
use Rattle.by_column.proofs.task_demand.Goals as goal

pub returns-in-Some : goal.returns-in-Some
returns-in-Some c =
    let told = rw (c.as_slice.ensures, c.as_slice-in-Some.ensures) at c.task_demand.ensures in
    from-rows _ _ _ c.in-Some.ensures (λ t h. DemandSays (asked_refusal t h c.args.l) (due (tasks_of t) c.args.l) c.task_demand.result) told

pub returns-in-None : goal.returns-in-None
returns-in-None c =
    demand-alike _ _ _ _ (from-counts _ _ c.in-None.ensures) c.args.l (due (tasks_of c.args.tasks.now) c.args.l) (due (tasks_of (row_order Task c.args.tasks.now)) c.args.l) _ c.task_demand-in-None.ensures
