use borrow.Author.Tests.{eq-eqb, ne_eqb}
use Rattle.own_sheet.proofs.letter.Goals as goal

pub returns-then-kind-eq0 : goal.returns-then-kind-eq0
returns-then-kind-eq0 c = rw (eq-eqb c.args.kind 0 c.if-kind-eq0.true)

pub returns-else-kind-eq0 : goal.returns-else-kind-eq0
returns-else-kind-eq0 c = rw (ne_eqb c.args.kind 0 c.if-kind-eq0.false)
