use borrow.Author.Tests.{eq-eqb, ne_eqb}
use Rattle.harness.proofs.numbers.late_of.Goals as goal

pub returns-then-number-eq0 : goal.returns-then-number-eq0
returns-then-number-eq0 c = simp (eq-eqb _ _ c.if-number-eq0.true)

pub returns-else-number-eq0 : goal.returns-else-number-eq0
returns-else-number-eq0 c = simp (ne_eqb _ _ c.if-number-eq0.false)
