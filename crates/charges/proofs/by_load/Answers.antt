use borrow.Author.Tests.{le-leb, lt-leb}
use Rattle.charges.proofs.by_load.Goals as goal

pub returns-then-load-le-MILLION : goal.returns-then-load-le-MILLION
returns-then-load-le-MILLION c = rw (le-leb c.args.load 1000000 c.if-load-le-MILLION.true)

pub returns-else-load-le-MILLION : goal.returns-else-load-le-MILLION
returns-else-load-le-MILLION c = rw (lt-leb c.args.load 1000000 c.if-load-le-MILLION.false)
