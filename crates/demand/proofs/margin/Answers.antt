use mathlib.Core.Path.{sym, ◌∙◌}
use mir.Syntax.{w64}
use mir.ValLaws.{to_z-of_z}
use native.Mathlib.Omega.{arith}
use Rattle.std.proofs.lemmas.Result.{err_from_is_err_and}
use Rattle.demand.specs.Rows.{handlers_of}
use Rattle.demand.proofs.Answers.{margin-answered, margin-refused}
use Rattle.demand.proofs.Demands.{handled-le}
use Rattle.demand.proofs.Signs.{margin-read}
use Rattle.demand.proofs.Inside.Sizes.{tasks-small, handlers-small, due-most}
use Rattle.demand.proofs.margin.Goals as goal

pub handled-f-requires : goal.handled-f-requires
handled-f-requires c = handlers-small _ _ _ (sym c.in_ok-of_question.ensures)

pub due-d-requires : goal.due-d-requires
due-d-requires c = tasks-small _ _ _ (sym c.in_ok-of_question.ensures)

pub left-left-requires : goal.left-left-requires
left-left-requires c = ((handlers-small _ _ _ (sym c.in_ok-of_question.ensures)).0, c.handled-f.ensures)

pub less_both-requires : goal.less_both-requires
less_both-requires c =
    let small = tasks-small c.args.tasks.now c.args.handlers.now _ (sym c.in_ok-of_question.ensures) in
    omega (arith, small.ticks, c.handled-f.ensures, handled-le (handlers_of c.args.handlers.now) c.args.l, c.due-d.ensures, due-most _ _ small)

pub returns-in_err-of_question : goal.returns-in_err-of_question
returns-in_err-of_question c =
    let p = err_from_is_err_and c.from_residual.result c.from_residual.ensures.1 in
    rw (p.1, p.2) (margin-refused _ _ _ _ _ c.in_err-of_question.ensures)

pub returns : goal.returns
returns c =
    let whole = to_z-of_z w64 c.less_both.result (record { sfits = c.less_both.type_inv }) in
    margin-answered _ _ _ _ _ _ (sym c.in_ok-of_question.ensures) (whole ∙ c.less_both.ensures ∙ margin-read _ _ _ _ _ c.handled-f.ensures c.due-d.ensures) c.left-left.ensures
