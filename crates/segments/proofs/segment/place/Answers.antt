use mathlib.Core.Path.{refl}
use Rattle.segments.proofs.Walks.Lent.{place_other}
use Rattle.segments.proofs.segment.place.Goals as goal

pub returns-then-s-eq0 : goal.returns-then-s-eq0
returns-then-s-eq0 c = rw c.if-s-eq0.true refl

pub returns-else-s-eq0 : goal.returns-else-s-eq0
returns-else-s-eq0 c = place_other _ _ c.if-s-eq0.false
