use native.Mathlib.Omega.{arith}
use Rattle.demand.specs.Rows.{row_of}
use Rattle.scheduler.proofs.Steps.OnePass.{task-figures, task-rest, task-fair}
use Rattle.scheduler.proofs.bounds.task_out.Goals as goal

pub returns-then-figures-own : goal.returns-then-figures-own
returns-then-figures-own c =
    let x = c.args in
    let out = rw (c.outside.ensures, c.outside-2.ensures) at c.if-figures-own.true in
    task-figures x.clock x.first (row_of x.row) x.next x.due x.owed out

pub overflow_add-next_far : goal.overflow_add-next_far
overflow_add-next_far c =
    let x = c.args in
    let clear = rw (c.outside.ensures, c.outside-2.ensures) at c.if-figures-own.false in
    omega (arith, (task-fair (row_of x.row) clear).0.period.most, c.requires)

pub overflow_add-due_far : goal.overflow_add-due_far
overflow_add-due_far c =
    let x = c.args in
    let clear = rw (c.outside.ensures, c.outside-2.ensures) at c.if-figures-own.false in
    let fair = task-fair (row_of x.row) clear in
    omega (arith, fair.0.period.most, fair.1.fits, c.requires)

pub returns : goal.returns
returns c =
    let x = c.args in
    let clear = rw (c.outside.ensures, c.outside-2.ensures) at c.if-figures-own.false in
    task-rest x.clock x.first (row_of x.row) x.next x.due x.owed clear
