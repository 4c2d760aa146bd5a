use Rattle.layout.proofs.Table.{own-told, deadline-told, misplaced-not, misplaced-none}
use Rattle.layout.proofs.reader.misplaced.Goals as goal

pub returns-in-Err : goal.returns-in-Err
returns-in-Err c =
    rw c.in-Ok.is (own-told _ c.if-table.true _ _ c.tasks.ensures c.handlers.ensures _ (rw c.in-Err.is at c.of_table.ensures))

pub returns-in-Ok-of_table : goal.returns-in-Ok-of_table
returns-in-Ok-of_table c =
    rw c.in-Ok.is (deadline-told _ c.if-table.true _ _ c.tasks.ensures c.handlers.ensures (rw c.in-Ok-of_table.is at c.of_table.ensures))

pub returns-in_default : goal.returns-in_default
returns-in_default c = rw c.in-Ok.is (misplaced-not _ c.if-table.false)

pub returns-in_default-2 : goal.returns-in_default-2
returns-in_default-2 c = rw c.in_default.is (misplaced-none _)
