use mathlib.Core.Path.{refl}
use Rattle.segments.proofs.segment.misplaced.Goals as goal

pub returns : goal.returns
returns c = rw c.unknown.ensures refl
