use mathlib.Core.Path.{sym}
use native.Mathlib.Omega.{arith}
use Rattle.demand.specs.Refusals.{deadline_outside}
use Rattle.demand.specs.declared.table.Kind.TheVariants.{Task}
use Rattle.demand.proofs.Inside.Slices.{part-shorter, some-short, some-head}
use Rattle.demand.proofs.refusal.+some_deadline_outside.Goals as goal

pub width-own-requires : goal.width-own-requires
width-own-requires t c = tt

pub returns-then-tasks-own : goal.returns-then-tasks-own
returns-then-tasks-own t c = sym (some-short Task _ (omega (arith, c.if-tasks-own.true, c.width-own.ensures)) deadline_outside)

pub head-task-requires : goal.head-task-requires
head-task-requires t c = omega (arith, c.width-own.ensures)

pub some_deadline_outside-rest-requires : goal.some_deadline_outside-rest-requires
some_deadline_outside-rest-requires t c = (omega (arith, part-shorter Task c.args.tasks.now _ c.width-own.ensures (omega arith)), tt)

pub returns : goal.returns
returns t c =
    some-head Task _ _ c.head-task.ensures _ c.width-own.ensures deadline_outside _ c.some_deadline_outside-rest.ensures
