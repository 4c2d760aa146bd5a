use Rattle.std.proofs.Common.{List, ℕ, length, sym, ap, ◌∙◌}
use Rattle.demand.specs.Rows.{tasks_of}
use Rattle.std.proofs.lemmas.Result.{err_from_is_err_and}
use Rattle.priority_sheet.proofs.Whole.{sheet-refused, sheet-own, sheet-told}
use Rattle.priority_sheet.proofs.answer.Goals as goal

pub returns-in_err-least-in-Ok : goal.returns-in_err-least-in-Ok
returns-in_err-least-in-Ok c =
    let p = err_from_is_err_and c.from_residual.result c.from_residual.ensures.1 in
    rw (p.1, p.2) (sheet-own _ _ (rw c.in-Ok.is at c.table_in.ensures) _ _ c.tasks.ensures c.handlers.ensures _ c.in_err-least-in-Ok.ensures)

pub returns-in_ok-least-in-Ok : goal.returns-in_ok-least-in-Ok
returns-in_ok-least-in-Ok c =
    let same = c.tasks-in-Ok.ensures ∙ sym c.tasks.ensures in
    sheet-told _ _ (rw c.in-Ok.is at c.table_in.ensures) _ _ c.tasks.ensures c.handlers.ensures _ _ c.in_ok-least-in-Ok.ensures
    (c.count.ensures ∙ ap (λ (s : List ℕ). length (tasks_of s)) same)

pub returns-in-Err : goal.returns-in-Err
returns-in-Err c = sheet-refused _ _ (rw c.in-Err.is at c.table_in.ensures)
