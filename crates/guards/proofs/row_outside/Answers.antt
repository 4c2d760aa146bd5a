use mathlib.Core.Path.{refl}
use Rattle.guards.proofs.row_outside.Goals as goal

pub returns : goal.returns
returns c = rw (c.outside.ensures, c.outside-2.ensures) refl
