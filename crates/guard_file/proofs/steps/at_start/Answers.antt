use borrow.Author.Tests.{eq-eqb, ne_eqb}
use Rattle.guard_file.proofs.steps.at_start.Goals as goal

pub returns-then-b-eq115 : goal.returns-then-b-eq115
returns-then-b-eq115 c = simp (eq-eqb _ _ c.if-b-eq115.true)

pub returns-then-b-eq98 : goal.returns-then-b-eq98
returns-then-b-eq98 c = simp (ne_eqb _ _ c.if-b-eq115.false, eq-eqb _ _ c.if-b-eq98.true)

pub returns-else-b-eq98 : goal.returns-else-b-eq98
returns-else-b-eq98 c = simp (ne_eqb _ _ c.if-b-eq115.false, ne_eqb _ _ c.if-b-eq98.false)
