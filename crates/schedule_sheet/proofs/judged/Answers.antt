use Rattle.schedule_sheet.proofs.Whole.{judged-says}
use Rattle.schedule_sheet.proofs.judged.Goals as goal

pub returns : goal.returns
returns c = judged-says _ _ _ _ _ _ c.answer-answer.ensures c.of_answer.ensures c.err.ensures.value
