use borrow.Author.Tests.{lt-ltb, le-ltb}
use Rattle.guard_file.proofs.steps.after.Goals as goal

pub returns-then-j-lt-LAST : goal.returns-then-j-lt-LAST
returns-then-j-lt-LAST c = simp (lt-ltb _ _ c.if-j-lt-LAST.true)

pub returns-else-j-lt-LAST : goal.returns-else-j-lt-LAST
returns-else-j-lt-LAST c = simp (le-ltb _ _ c.if-j-lt-LAST.false)
