use mathlib.Core.Path.{◌∙◌}
use mir.Syntax.{w64}
use mir.ValLaws.{to_z-of_z}
use Rattle.demand.proofs.Signs.{first_fits, both-fits, both_is}
use Rattle.demand.proofs.signed.less_both.Goals as goal

pub overflow_sub-result : goal.overflow_sub-result
overflow_sub-result c = first_fits _ _ c.args.d c.requires.0 c.requires.1 c.requires.2

pub overflow_sub-result-2 : goal.overflow_sub-result-2
overflow_sub-result-2 c = both-fits _ _ _ c.requires.0 c.requires.1 c.requires.2

pub returns : goal.returns
returns c = to_z-of_z w64 _ (both-fits _ _ _ c.requires.0 c.requires.1 c.requires.2) ∙ both_is _ _ _ c.requires.0 c.requires.1 c.requires.2
