use native.Mathlib.Omega.{arith}
use Rattle.demand.specs.Rows.{row_of}
use Rattle.segments.proofs.Looks.Figures.{due-most, due-behind, jobs-most, next-work-most, run_short, run-met}
use Rattle.segments.proofs.look.run.Goals as goal

pub overflow_mul-due : goal.overflow_mul-due
overflow_mul-due c = omega (arith, due-most (row_of c.args.row) _ _ c.requires.0 c.requires.1)

pub overflow_add-due : goal.overflow_add-due
overflow_add-due c = omega (arith, due-most (row_of c.args.row) _ _ c.requires.0 c.requires.1)

pub overflow_sub-due : goal.overflow_sub-due
overflow_sub-due c = omega (arith, due-behind (row_of c.args.row) _ _ c.requires.0 c.requires.1)

pub overflow_add-given : goal.overflow_add-given
overflow_add-given c = omega (arith, due-most (row_of c.args.row) _ _ c.requires.0 c.requires.1)

pub overflow_add-jobs-2 : goal.overflow_add-jobs-2
overflow_add-jobs-2 c = omega (arith, jobs-most (row_of c.args.row) _ _ c.requires.0 c.requires.1)

pub overflow_mul-row : goal.overflow_mul-row
overflow_mul-row c =
    omega (arith, next-work-most (row_of c.args.row) _ _ c.requires.0 c.requires.1)

pub returns-then-given-due : goal.returns-then-given-due
returns-then-given-due c = run_short _ _ _ (row_of c.args.row) c.if-given-due.true

pub returns-else-given-due : goal.returns-else-given-due
returns-else-given-due c = run-met _ _ _ (row_of c.args.row) c.if-given-due.false
