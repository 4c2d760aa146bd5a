use mathlib.Core.Path.{sym}
use Rattle.std.proofs.lemmas.Result.{err_from_is_err_and}
use Rattle.segments.proofs.Refusals.{refused-own, refused-limit}
use Rattle.verdict.proofs.Sayings.{says-readable}
use Rattle.segments.proofs.refusal.of_call.Goals as goal

pub returns-in_err-of_table : goal.returns-in_err-of_table
returns-in_err-of_table c =
    let p = err_from_is_err_and c.from_residual.result c.from_residual.ensures.1 in
    rw (p.1, p.2) (refused-own _ _ _ _ _ c.in_err-of_table.ensures)

pub of_schedule-requires : goal.of_schedule-requires
of_schedule-requires c = says-readable c.args.tasks.now c.args.handlers.now (sym c.in_ok-of_table.ensures) _ c.in-Some.ensures

pub returns-in-None : goal.returns-in-None
returns-in-None c = refused-limit c.args.tasks.now c.args.handlers.now _ _ (sym c.in_ok-of_table.ensures) c.in-None.ensures
