use mathlib.Core.Path.{refl}
use Rattle.scheduler.specs.Start.{zeros}
use Rattle.advance.proofs.quiet.zeros.Goals as goal

pub returns : goal.returns
returns c = unfold zeros in refl
