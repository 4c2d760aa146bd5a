use mathlib.Core.Path.{refl}
use Rattle.schedule_file.specs.Schedule.{filled}
use Rattle.schedule_file.proofs.reader.zeros.Goals as goal

pub returns : goal.returns
unfolding filled
returns c = refl
