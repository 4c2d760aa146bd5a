use mathlib.Core.Path.{sym, ap}
use native.Mathlib.Omega.{arith}
use Rattle.advance.specs.Inside.Alone.{paid_by}
use Rattle.scheduler.specs.declared.Ran.{Ran}
use Rattle.advance.proofs.Paid.{handler-pays-by, task-pays-by}
use Rattle.advance.proofs.alone.pay_by.Goals as goal

pub overflow_add-owed : goal.overflow_add-owed
overflow_add-owed c = let pays = handler-pays-by _ _ _ _ _ c.requires.1 c.in-Handler.is in omega arith

pub overflow_sub-owed : goal.overflow_sub-owed
overflow_sub-owed c = let pays = handler-pays-by _ _ _ _ _ c.requires.1 c.in-Handler.is in omega arith

pub offset_bounds-owed-n : goal.offset_bounds-owed-n
offset_bounds-owed-n c = let pays = handler-pays-by _ _ _ _ _ c.requires.1 c.in-Handler.is in omega arith

pub bounds-owed-n : goal.bounds-owed-n
bounds-owed-n c = let pays = handler-pays-by _ _ _ _ _ c.requires.1 c.in-Handler.is in omega arith

pub bounds-owed-n-in-Handler : goal.bounds-owed-n-in-Handler
bounds-owed-n-in-Handler c = let pays = handler-pays-by _ _ _ _ _ c.requires.1 c.in-Handler.is in omega arith

pub overflow_sub-owed-in-Task : goal.overflow_sub-owed-in-Task
overflow_sub-owed-in-Task c = let pays = task-pays-by _ _ _ _ _ c.requires.1 c.in-Task.is in omega arith

pub offset_bounds-owed-row : goal.offset_bounds-owed-row
offset_bounds-owed-row c = let pays = task-pays-by _ _ _ _ _ c.requires.1 c.in-Task.is in omega arith

pub bounds-owed-row : goal.bounds-owed-row
bounds-owed-row c = let pays = task-pays-by _ _ _ _ _ c.requires.1 c.in-Task.is in omega arith

pub bounds-owed-row-in-Task : goal.bounds-owed-row-in-Task
bounds-owed-row-in-Task c = let pays = task-pays-by _ _ _ _ _ c.requires.1 c.in-Task.is in omega arith

pub returns-in-Handler : goal.returns-in-Handler
returns-in-Handler c =
    let x = c.args in
    sym (ap (λ (y : Ran). paid_by x.owed.now x.n y x.ticks) c.in-Handler.is)

pub returns-in-Task : goal.returns-in-Task
returns-in-Task c =
    let x = c.args in
    sym (ap (λ (y : Ran). paid_by x.owed.now x.n y x.ticks) c.in-Task.is)
