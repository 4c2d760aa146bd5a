use borrow.Author.Tests.{lt-ltb, le-ltb}
use Rattle.priority.proofs.climb.within.Goals as goal

pub returns-then-deadline-l : goal.returns-then-deadline-l
returns-then-deadline-l c = simp (lt-ltb _ _ c.if-deadline-l.true)

pub returns-else-deadline-l : goal.returns-else-deadline-l
returns-else-deadline-l c = simp (le-ltb _ _ c.if-deadline-l.false)
