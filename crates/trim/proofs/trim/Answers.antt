use Rattle.std.proofs.lemmas.Result.{err_from_is_err_and}
use Rattle.trim.proofs.Answers.{says-refused}
use Rattle.trim.proofs.Lowered.{judged-by}
use Rattle.trim.proofs.trim.Goals as goal

pub returns-in_err-sheet : goal.returns-in_err-sheet
returns-in_err-sheet c =
    let p = err_from_is_err_and c.from_residual.result c.from_residual.ensures.1 in
    rw (p.1, p.2) (says-refused _ _ _ _ c.in_err-sheet.ensures)

pub of_readable-requires : goal.of_readable-requires
of_readable-requires c = judged-by _ _ _ _ c.in_ok-sheet.ensures c.is_fits.ensures
