use mathlib.Core.Path.{sym}
use Rattle.scheduler.proofs.Promise.{fresh-says}
use Rattle.scheduler.proofs.Steps.Tables.{fresh-ready, fresh-refused}
use Rattle.scheduler.proofs.Run.fresh.Goals as goal

pub fresh_run-requires : goal.fresh_run-requires
fresh_run-requires c = sym c.in-Ok.ensures

pub returns-in-Ok : goal.returns-in-Ok
returns-in-Ok c = fresh-says _ _ _ (rw c.fresh_run.ensures (sym (fresh-ready _ _ (sym c.in-Ok.ensures))))

pub returns-in-Err : goal.returns-in-Err
returns-in-Err c = fresh-says _ _ _ (rw c.no_run.ensures (sym (fresh-refused _ _ _ c.in-Err.ensures)))
