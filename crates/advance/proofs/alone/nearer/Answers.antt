use borrow.Author.Tests.{eq-eqb, ne_eqb}
use Rattle.advance.proofs.alone.nearer.Goals as goal

pub returns-then-owed-eq0 : goal.returns-then-owed-eq0
returns-then-owed-eq0 c = simp (eq-eqb _ _ c.if-owed-eq0.true)

pub returns-else-owed-eq0 : goal.returns-else-owed-eq0
returns-else-owed-eq0 c = rw (ne_eqb _ _ c.if-owed-eq0.false) c.min.ensures
