use borrow.Author.Tests.{lt-ltb, le-ltb}
use Rattle.scheduler.proofs.rows.row_at.Goals as goal

pub returns-then-k-n : goal.returns-then-k-n
returns-then-k-n c = simp (lt-ltb _ _ c.if-k-n.true) c.task.ensures

pub returns-else-k-n : goal.returns-else-k-n
returns-else-k-n c = simp (le-ltb _ _ c.if-k-n.false) c.handler.ensures
