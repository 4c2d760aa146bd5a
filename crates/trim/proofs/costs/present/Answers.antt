use mathlib.Core.Path.{refl}
use Rattle.trim.specs.Costs.{cost_at}
use Rattle.trim.proofs.costs.present.Goals as goal

pub returns : goal.returns
unfolding cost_at
returns c = rw c.place_of.ensures refl
