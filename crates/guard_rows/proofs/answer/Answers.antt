use Rattle.guard_file.proofs.Lent.{page-lent}
use Rattle.guard_rows.proofs.answer.Goals as goal

pub slice_bounds-page-end : goal.slice_bounds-page-end
slice_bounds-page-end c = (page-lent _ _ _ _ c.blank-page.ensures c.answer-output.ensures).0

pub slice_bounds-answer-end : goal.slice_bounds-answer-end
slice_bounds-answer-end c = (page-lent _ _ _ _ c.blank-page.ensures c.answer-output.ensures).1
