use Rattle.priority_sheet.proofs.Whole.{sheet-few, sheet-says}
use Rattle.priority_sheet.proofs.sheet.Goals as goal

pub write-requires : goal.write-requires
write-requires c = sheet-few _ _ c.answer.ensures

pub returns : goal.returns
returns c = sheet-says _ _ _ _ _ c.answer.ensures c.write.ensures
