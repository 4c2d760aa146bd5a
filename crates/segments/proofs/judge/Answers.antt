use mathlib.Core.Path.{sym}
use Rattle.std.proofs.lemmas.Result.{err_from_is_err_and}
use Rattle.segments.proofs.Answers.{says-refused}
use Rattle.segments.proofs.judge.Goals as goal

pub returns-in_err-of_call : goal.returns-in_err-of_call
returns-in_err-of_call c =
    let p = err_from_is_err_and c.from_residual.result c.from_residual.ensures.1 in
    rw (p.1, p.2) (says-refused _ _ _ _ _ c.in_err-of_call.ensures)

pub judged-requires : goal.judged-requires
judged-requires c = sym c.in_ok-of_call.ensures
