use Rattle.sheet.proofs.Whole.{sheet-says}
use Rattle.sheet.proofs.sheet.Goals as goal

pub returns : goal.returns
returns c = sheet-says _ _ _ _ c.answer-answer.ensures c.of_answer.ensures c.err.ensures.value
