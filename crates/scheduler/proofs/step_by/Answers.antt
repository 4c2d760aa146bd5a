use mathlib.Core.Path.{sym, ◌∙◌}
use Rattle.scheduler.proofs.Promise.{step-says}
use Rattle.scheduler.proofs.Steps.Answers.{step-ticks, step-told}
use Rattle.scheduler.proofs.step_by.Goals as goal

pub ticked-requires : goal.ticked-requires
ticked-requires c = sym c.in-Ok.ensures

pub returns-in-Ok : goal.returns-in-Ok
returns-in-Ok c = step-says _ _ _ _ (c.ticked.ensures ∙ sym (step-ticks _ _ _ (sym c.in-Ok.ensures)))

pub returns-in-Err : goal.returns-in-Err
returns-in-Err c = step-says _ _ _ _ (step-told _ _ _ _ c.in-Err.ensures)
