use borrow.Author.Tests.{eq-eqb, ne_eqb}
use Rattle.own_segments.proofs.arrivals.beat.Goals as goal

pub returns-then-tick-row-eq0 : goal.returns-then-tick-row-eq0
returns-then-tick-row-eq0 c = simp (eq-eqb _ _ c.if-tick-row-eq0.true)

pub returns-else-tick-row-eq0 : goal.returns-else-tick-row-eq0
returns-else-tick-row-eq0 c = simp (ne_eqb _ _ c.if-tick-row-eq0.false)
