use mathlib.Core.Path.{refl}
use Rattle.scheduler.specs.Start.{no_run, zeros}
use Rattle.scheduler.proofs.begin.no_run.Goals as goal

pub returns : goal.returns
unfolding no_run zeros
returns c = refl
