use mathlib.Core.Path.{sym}
use Rattle.std.proofs.lemmas.Result.{err_from_is_err_and}
use Rattle.priority.proofs.Answers.{found-says, refused_says}
use Rattle.priority.proofs.responses.Goals as goal

pub returns-in_err-of_table : goal.returns-in_err-of_table
returns-in_err-of_table c =
    let p = err_from_is_err_and c.from_residual.result c.from_residual.ensures.1 in
    rw (p.1, p.2) (refused_says _ _ _ c.in_err-of_table.ensures)

pub returns : goal.returns
returns c = found-says _ _ _ (sym c.in_ok-of_table.ensures) c.all.ensures
