use mathlib.Core.Path.{refl}
use Rattle.trim_file.specs.Inside.{bare_sheet}
use Rattle.trim_file.proofs.write.bare.Goals as goal

pub returns : goal.returns
unfolding bare_sheet
returns c = refl
