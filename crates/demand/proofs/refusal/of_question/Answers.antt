use mathlib.Core.Path.{sym, ◌∙◌}
use Rattle.std.proofs.lemmas.Result.{err_from_is_err_and}
use Rattle.demand.proofs.Numbered.{number-pos}
use Rattle.demand.proofs.Refusals.{asked-zero, asked-5, asked-table}
use Rattle.demand.proofs.refusal.of_question.Goals as goal

pub returns-in_err-of_table : goal.returns-in_err-of_table
returns-in_err-of_table c =
    let table = c.in_err-of_table.ensures in
    let p = err_from_is_err_and c.from_residual.result c.from_residual.ensures.1 in rw (p.1, p.2) (table ∙ sym (asked-table _ _ _ (rw table at (number-pos c.in_err-of_table.field-0.0))))

pub returns-then-l-gt-TICKS_MOST : goal.returns-then-l-gt-TICKS_MOST
returns-then-l-gt-TICKS_MOST c = sym (asked-5 _ _ _ (sym c.in_ok-of_table.ensures) c.if-l-gt-TICKS_MOST.true)

pub returns-else-l-gt-TICKS_MOST : goal.returns-else-l-gt-TICKS_MOST
returns-else-l-gt-TICKS_MOST c = sym (asked-zero _ _ _ (sym c.in_ok-of_table.ensures) c.if-l-gt-TICKS_MOST.false)
