use Rattle.trim_file.proofs.Whole.{file-refused, file-trimmed}
use Rattle.trim_file.proofs.answer.Goals as goal

pub returns-in-Ok : goal.returns-in-Ok
returns-in-Ok c = file-trimmed _ _ _ _ _ _ (rw c.in-Ok.is at c.table_in.ensures) c.tasks.ensures c.handlers.ensures c.trim.ensures

pub returns-in-Err : goal.returns-in-Err
returns-in-Err c = file-refused _ _ _ (rw c.in-Err.is at c.table_in.ensures)
