use native.Mathlib.Nat.{div-le_self}
use native.Mathlib.Omega.{arith}
use borrow.Author.Tests.{le-ltb, lt-ltb}
use Prim.Native.Nat.{◌-◌}
use Rattle.demand.proofs.rows.jobs.Goals as goal

pub overflow_add-result : goal.overflow_add-result
overflow_add-result c = omega (arith, c.requires.0, div-le_self (c.args.l - c.args.deadline) c.args.period)

pub returns-then-l-deadline : goal.returns-then-l-deadline
returns-then-l-deadline c = rw (lt-ltb c.args.l c.args.deadline c.if-l-deadline.true)

pub returns-else-l-deadline : goal.returns-else-l-deadline
returns-else-l-deadline c = rw (le-ltb c.args.l c.args.deadline c.if-l-deadline.false)
