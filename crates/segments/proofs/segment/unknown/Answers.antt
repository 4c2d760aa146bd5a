use mathlib.Core.Path.{refl}
use Rattle.segments.proofs.Walks.Lent.{who-other}
use Rattle.segments.proofs.segment.unknown.Goals as goal

pub returns-then-kind-eq0 : goal.returns-then-kind-eq0
returns-then-kind-eq0 c = rw c.if-kind-eq0.true refl

pub returns-then-kind-eq1 : goal.returns-then-kind-eq1
returns-then-kind-eq1 c = rw c.if-kind-eq1.true refl

pub returns : goal.returns
returns c =
    let x = c.args in
    rw (who-other x.kind x.row c.if-kind-eq0.false c.if-kind-eq1.false) refl
