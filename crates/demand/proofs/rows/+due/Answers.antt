use mathlib.Core.Path.{sym}
use native.Mathlib.Omega.{arith}
use Rattle.demand.specs.Demands.{due_by, due}
use Rattle.demand.specs.Rows.{row_of}
use Rattle.demand.specs.declared.table.Kind.TheVariants.{Task}
use Rattle.demand.proofs.Inside.Sizes.{due-by-most, due-most}
use Rattle.demand.proofs.Inside.Slices.{part-shorter, total-short, total_head, fair-head, small-part}
use Rattle.demand.proofs.rows.+due.Goals as goal

pub width-own-requires : goal.width-own-requires
width-own-requires t c = tt

pub returns-then-tasks-own : goal.returns-then-tasks-own
unfolding due
returns-then-tasks-own t c = sym (total-short Task _ (omega (arith, c.if-tasks-own.true, c.width-own.ensures)) (due_by c.args.l))

pub head-task-requires : goal.head-task-requires
head-task-requires t c = omega (arith, c.width-own.ensures)

pub due-rest-requires : goal.due-rest-requires
due-rest-requires t c =
    (omega (arith, part-shorter Task c.args.tasks.now _ c.width-own.ensures (omega arith)), small-part Task _ _ c.head-task.ensures _ c.width-own.ensures _ c.requires)

pub jobs-requires : goal.jobs-requires
jobs-requires t c =
    (c.requires.ticks, (fair-head Task _ _ c.head-task.ensures _ c.requires).period.least)

pub overflow_mul-result : goal.overflow_mul-result
overflow_mul-result t c =
    let fair = fair-head Task _ _ c.head-task.ensures _ c.requires in
    rw c.jobs.ensures (omega (arith, due-by-most c.args.l (row_of c.head-task.result) c.requires.ticks fair))

pub overflow_add-result : goal.overflow_add-result
unfolding due
overflow_add-result t c =
    let sum = total_head Task _ _ c.head-task.ensures _ c.width-own.ensures (due_by c.args.l) _ c.due-rest.ensures in
    rw c.jobs.ensures (omega (arith, sum, due-most _ _ c.requires))

pub returns : goal.returns
unfolding due
returns t c =
    rw c.jobs.ensures (total_head Task _ _ c.head-task.ensures _ c.width-own.ensures (due_by c.args.l) _ c.due-rest.ensures)
