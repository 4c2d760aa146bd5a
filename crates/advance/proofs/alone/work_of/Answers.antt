use mathlib.Core.Path.{sym, ap}
use native.Mathlib.Omega.{arith}
use Rattle.advance.specs.Inside.Alone.{work_of}
use Rattle.advance.proofs.Paid.{handler-placed, task-placed}
use Rattle.advance.proofs.alone.work_of.Goals as goal

pub overflow_add-result : goal.overflow_add-result
overflow_add-result c = let l = handler-placed _ _ c.requires.1 c.in-Handler.is in omega arith

pub offset_bounds-run-run : goal.offset_bounds-run-run
offset_bounds-run-run c = let l = handler-placed _ _ c.requires.1 c.in-Handler.is in omega arith

pub bounds-run-run : goal.bounds-run-run
bounds-run-run c = let l = handler-placed _ _ c.requires.1 c.in-Handler.is in omega arith

pub offset_bounds-run-row : goal.offset_bounds-run-row
offset_bounds-run-row c = let l = task-placed _ _ c.requires.1 c.in-Task.is in omega arith

pub bounds-run-row : goal.bounds-run-row
bounds-run-row c = let l = task-placed _ _ c.requires.1 c.in-Task.is in omega arith

pub returns-in-Handler : goal.returns-in-Handler
returns-in-Handler c = sym (ap (work_of _ _) c.in-Handler.is)

pub returns-in-Task : goal.returns-in-Task
returns-in-Task c = sym (ap (work_of _ _) c.in-Task.is)
