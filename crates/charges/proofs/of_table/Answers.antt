use Rattle.charges.proofs.Answers.{told-known, says-charged, says-19}
use Rattle.charges.proofs.of_table.Goals as goal

pub returns-then-quantum : goal.returns-then-quantum
returns-then-quantum c = says-19 _ _ _ c.if-quantum.true

pub by_quantum-requires : goal.by_quantum-requires
by_quantum-requires c = (told-known _ _ _ c.verdict-exact.ensures _ _ c.is_ok.ensures.value c.some_shorter.ensures, c.if-quantum.false)

pub by_task-requires : goal.by_task-requires
by_task-requires c = told-known _ _ _ c.verdict-exact.ensures _ _ c.is_ok.ensures.value c.some_shorter.ensures

pub returns : goal.returns
returns c = says-charged _ _ _ _ _ _ c.if-quantum.false c.verdict-exact.ensures c.by_quantum.ensures c.by_task.ensures
