use mathlib.Core.Path.{sym}
use native.Mathlib.Omega.{arith}
use Rattle.charges.specs.Promise.{shorter}
use Rattle.demand.specs.declared.table.Kind.TheVariants.{Task}
use Rattle.demand.proofs.Inside.Slices.{part-shorter, some-short, some-head}
use Rattle.charges.proofs.+some_shorter.Goals as goal

pub returns-then-tasks-own : goal.returns-then-tasks-own
returns-then-tasks-own t c = sym (some-short Task c.args.tasks.now (omega (arith, c.if-tasks-own.true, c.width-own.ensures)) shorter)

pub head-task-requires : goal.head-task-requires
head-task-requires t c = omega (arith, c.width-own.ensures)

pub some_shorter-rest-requires : goal.some_shorter-rest-requires
some_shorter-rest-requires t c = (omega (arith, part-shorter Task c.args.tasks.now _ c.width-own.ensures (omega arith)), tt)

pub returns : goal.returns
returns t c = some-head Task c.args.tasks.now _ c.head-task.ensures _ c.width-own.ensures shorter _ c.some_shorter-rest.ensures
