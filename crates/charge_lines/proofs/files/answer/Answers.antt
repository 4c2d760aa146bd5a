use Rattle.charge_lines.proofs.Charged.{answers-nineteen, answers-refused, answers-charged}
use Rattle.charge_lines.proofs.files.answer.Goals as goal

pub returns-then-quantum : goal.returns-then-quantum
returns-then-quantum c = answers-nineteen c.args.input.now c.args.quantum c.if-quantum.true

pub returns-in-Ok : goal.returns-in-Ok
returns-in-Ok c =
    answers-charged _ _ c.if-quantum.false _ _ _ _ (rw c.in-Ok.is at c.table_in.ensures) c.tasks.ensures c.handlers.ensures c.of_table.ensures

pub returns-in-Err : goal.returns-in-Err
returns-in-Err c = answers-refused _ _ c.if-quantum.false _ (rw c.in-Err.is at c.table_in.ensures)
