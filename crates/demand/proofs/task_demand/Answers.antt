use mathlib.Core.Path.{sym}
use Rattle.std.proofs.lemmas.Result.{err_from_is_err_and}
use Rattle.demand.proofs.Answers.{demand-answered, demand-refused}
use Rattle.demand.proofs.Inside.Sizes.{tasks-small}
use Rattle.demand.proofs.task_demand.Goals as goal

pub returns-in_err-of_question : goal.returns-in_err-of_question
returns-in_err-of_question c = let p = err_from_is_err_and c.from_residual.result c.from_residual.ensures.1 in rw (p.1, p.2) (demand-refused _ _ _ c.in_err-of_question.ensures)

pub due-requires : goal.due-requires
due-requires c = tasks-small _ _ _ (sym c.in_ok-of_question.ensures)

pub returns : goal.returns
returns c = demand-answered _ _ _ (sym c.in_ok-of_question.ensures) c.due.ensures
