use native.Mathlib.Omega.{arith}
use Rattle.charges.proofs.Growth.{quantum-usable, quantum-read, task-read}
use Rattle.charges.proofs.Bounded.{bounds-most}
use Rattle.demand.specs.Rows.{row_of, handlers_of}
use Rattle.charges.proofs.ways.grown.Goals as goal

pub in_quanta-requires : goal.in_quanta-requires
in_quanta-requires c = quantum-usable _ (handlers_of c.args.handlers.now) (row_of c.args.task) _ _ c.in-Quantum.is c.requires.0 c.requires.1

pub bounds-requires : goal.bounds-requires
bounds-requires c = record { rows = c.requires.2.rows; count = omega (arith, c.requires.2.count); ticks = omega (arith, c.requires.1.period.most) }

pub overflow_add-result : goal.overflow_add-result
overflow_add-result c = omega (arith, c.bounds.ensures, bounds-most 16 c.args.task.period (handlers_of c.args.handlers.now) c.requires.2.rows c.requires.2.count, c.requires.1.cost.most, c.requires.1.period.most)

pub returns-in-Quantum : goal.returns-in-Quantum
returns-in-Quantum c = quantum-read _ (handlers_of c.args.handlers.now) (row_of c.args.task) _ _ _ c.in-Quantum.is c.in_quanta.ensures

pub returns-in-Task : goal.returns-in-Task
returns-in-Task c = task-read _ (handlers_of c.args.handlers.now) (row_of c.args.task) _ c.in-Task.is c.bounds.ensures
