use Rattle.guard_file.proofs.Whole.{sheet-page, broken-page}
use Rattle.guard_file.proofs.lines.write.Goals as goal

pub returns-in-Ok : goal.returns-in-Ok
returns-in-Ok c = sheet-page _ _ _ _ _ c.in-Ok.is c.of_sheet.ensures

pub returns-in-Err : goal.returns-in-Err
returns-in-Err c = broken-page _ _ _ _ _ c.in-Err.is c.refuse.ensures
