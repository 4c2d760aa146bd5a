use mathlib.Core.Path.{sym}
use Rattle.std.proofs.lemmas.Result.{err_from_is_err_and}
use Rattle.demand.proofs.Answers.{handler-answered, handler-refused}
use Rattle.demand.proofs.Inside.Sizes.{handlers-small}
use Rattle.demand.proofs.handler_demand.Goals as goal

pub returns-in_err-of_question : goal.returns-in_err-of_question
returns-in_err-of_question c =
    let p = err_from_is_err_and c.from_residual.result c.from_residual.ensures.1 in
    rw (p.1, p.2) (handler-refused _ _ _ _ c.in_err-of_question.ensures)

pub handled-ticks-requires : goal.handled-ticks-requires
handled-ticks-requires c = handlers-small _ _ _ (sym c.in_ok-of_question.ensures)

pub left-left-requires : goal.left-left-requires
left-left-requires c = ((handlers-small _ _ _ (sym c.in_ok-of_question.ensures)).0, c.handled-ticks.ensures)

pub returns : goal.returns
returns c = handler-answered _ _ _ _ _ (sym c.in_ok-of_question.ensures) c.handled-ticks.ensures c.left-left.ensures
