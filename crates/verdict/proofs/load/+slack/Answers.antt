use mathlib.Core.Path.{sym}
use native.Mathlib.Omega.{arith}
use Rattle.demand.specs.Rows.{Sound, tasks_of, row_of}
use Rattle.demand.specs.declared.table.Kind.TheVariants.{Task}
use Rattle.demand.proofs.Inside.Slices.{part-shorter, total-short, total_head, each-head, fair-head, small-part}
use Rattle.verdict.specs.Loads.{slack_by, slack}
use Rattle.verdict.proofs.Loads.{work-by-most, slack-by-most, slack-most}
use Rattle.verdict.proofs.load.+slack.Goals as goal

pub returns-then-tasks-own : goal.returns-then-tasks-own
unfolding slack
returns-then-tasks-own t c = sym (total-short Task _ (omega (arith, c.if-tasks-own.true, c.width-own.ensures)) (slack_by c.args.h))

pub head-task-requires : goal.head-task-requires
head-task-requires t c = omega (arith, c.width-own.ensures)

pub slack-rest-requires : goal.slack-rest-requires
slack-rest-requires t c =
    let wide = c.width-own.ensures in (
      omega (arith, part-shorter Task c.args.tasks.now _ wide (omega arith)),
      (small-part Task _ _ c.head-task.ensures _ wide _ c.requires.0, (each-head Task _ _ c.head-task.ensures _ wide Sound c.requires.1).1),
    )

pub nonzero_div-result : goal.nonzero_div-result
nonzero_div-result t c = (fair-head Task _ _ c.head-task.ensures _ c.requires.0).period.least

pub overflow_mul-result : goal.overflow_mul-result
overflow_mul-result t c =
    let fair = fair-head Task _ _ c.head-task.ensures _ c.requires.0 in
    omega (arith, work-by-most c.args.h _ fair, c.requires.0.ticks)

pub overflow_sub-result : goal.overflow_sub-result
overflow_sub-result t c =
    (each-head Task _ _ c.head-task.ensures _ c.width-own.ensures Sound c.requires.1).0.fits

pub overflow_mul-result-2 : goal.overflow_mul-result-2
overflow_mul-result-2 t c =
    let fair = fair-head Task _ _ c.head-task.ensures _ c.requires.0 in
    omega (arith, slack-by-most c.args.h (row_of c.head-task.result) fair, c.requires.0.ticks)

pub overflow_add-result : goal.overflow_add-result
unfolding slack
overflow_add-result t c =
    let sum = total_head Task _ _ c.head-task.ensures _ c.width-own.ensures (slack_by c.args.h) _ c.slack-rest.ensures in
    omega (arith, sum, slack-most c.args.h 64 (tasks_of c.args.tasks.now) c.requires.0.rows c.requires.0.count, c.requires.0.ticks)

pub returns : goal.returns
unfolding slack
returns t c =
    total_head Task _ _ c.head-task.ensures _ c.width-own.ensures (slack_by c.args.h) _ c.slack-rest.ensures
