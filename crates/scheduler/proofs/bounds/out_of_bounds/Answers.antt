use Rattle.scheduler.proofs.Steps.OnePass.{begun, out_first, out-pass}
use Rattle.scheduler.proofs.bounds.out_of_bounds.Goals as goal

pub returns-then-miscounts-run : goal.returns-then-miscounts-run
returns-then-miscounts-run c = out_first _ (rw c.miscounts.ensures at c.if-miscounts-run.true)

pub earliest_due-first-requires : goal.earliest_due-first-requires
earliest_due-first-requires c =
    let run = c.args.run.now in
    let fit = begun run.task_count run.handler_count run.clock (rw c.miscounts.ensures at c.if-miscounts-run.false) in
    fit.1

pub places_used-past_the_rows-requires : goal.places_used-past_the_rows-requires
places_used-past_the_rows-requires c =
    let run = c.args.run.now in
    let fit = begun run.task_count run.handler_count run.clock (rw c.miscounts.ensures at c.if-miscounts-run.false) in
    fit.0

pub tasks_out-of_tasks-requires : goal.tasks_out-of_tasks-requires
tasks_out-of_tasks-requires c =
    let run = c.args.run.now in
    let fit = begun run.task_count run.handler_count run.clock (rw c.miscounts.ensures at c.if-miscounts-run.false) in
    (fit.0.tasks, fit.1)

pub handlers_out-of_handlers-requires : goal.handlers_out-of_handlers-requires
handlers_out-of_handlers-requires c =
    let run = c.args.run.now in
    let fit = begun run.task_count run.handler_count run.clock (rw c.miscounts.ensures at c.if-miscounts-run.false) in
    fit

pub late_out-late-requires : goal.late_out-late-requires
late_out-late-requires c =
    let run = c.args.run.now in
    let fit = begun run.task_count run.handler_count run.clock (rw c.miscounts.ensures at c.if-miscounts-run.false) in
    fit.0.tasks

pub returns : goal.returns
returns c =
    let tasks = rw c.earliest_due-first.ensures at c.tasks_out-of_tasks.ensures in
    out-pass _ (rw c.miscounts.ensures at c.if-miscounts-run.false) _ _ _ _ c.places_used-past_the_rows.ensures tasks c.handlers_out-of_handlers.ensures c.late_out-late.ensures
