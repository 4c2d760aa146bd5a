use Rattle.schedule_sheet.proofs.Whole.{schedule-torn, schedule-read}
use Rattle.schedule_sheet.proofs.of_schedule.Goals as goal

pub returns-in-Ok : goal.returns-in-Ok
returns-in-Ok c = schedule-read _ _ _ _ _ _ _ (rw c.in-Ok.is at c.read.ensures) c.numbers.ensures c.judge.ensures

pub returns-in-Err : goal.returns-in-Err
returns-in-Err c = schedule-torn _ _ _ _ _ _ (rw c.in-Err.is at c.read.ensures) c.judge-in-Err.ensures
