use Rattle.scheduler.specs.Start.{no_run, zeros}
use Rattle.scheduler.proofs.Steps.Tables.{tasks-fit, handlers-fit, fresh-made}
use Rattle.scheduler.proofs.begin.fresh_run.Goals as goal

pub copy_in-requires : goal.copy_in-requires
copy_in-requires c = tasks-fit _ _ c.requires

pub copy_in-requires-2 : goal.copy_in-requires-2
copy_in-requires-2 c = handlers-fit _ _ c.requires

pub returns : goal.returns
unfolding no_run zeros
returns c = rw c.no_run.ensures (fresh-made _ _ _ _ _ _ c.copy_in.ensures c.copy_in-2.ensures c.count.ensures c.count-2.ensures)
