use native.Mathlib.Omega.{arith}
use Rattle.advance.proofs.Pieces.{lasts-made, made-pays, made-few, made_none, made_some}
use Rattle.scheduler.proofs.Steps.Clauses.{clauses, clauses-fit}
use Rattle.advance.proofs.alone.piece_after.Goals as goal

pub work_of-requires : goal.work_of-requires
work_of-requires c = let follows = c.requires in ((clauses-fit _ (clauses _ follows.inside)).tasks, follows.placed)

pub first_due-requires : goal.first_due-requires
first_due-requires c = (clauses-fit _ (clauses _ c.requires.inside)).tasks

pub slide-before-requires : goal.slide-before-requires
slide-before-requires c =
    let more = lasts-made _ _ _ _ _ _ c.work_of.ensures c.first_due.ensures c.lasts-more.ensures in
    made-pays _ _ _ c.requires _ more c.if-more-eq0.false

pub overflow_add-result : goal.overflow_add-result
overflow_add-result c =
    let more = lasts-made _ _ _ _ _ _ c.work_of.ensures c.first_due.ensures c.lasts-more.ensures in
    omega (arith, made-few _ _ _ c.requires _ more c.if-more-eq0.false)

pub returns-then-more-eq0 : goal.returns-then-more-eq0
returns-then-more-eq0 c =
    let more = lasts-made _ _ _ _ _ _ c.work_of.ensures c.first_due.ensures c.lasts-more.ensures in
    made_none _ _ _ c.requires _ more c.if-more-eq0.true

pub returns : goal.returns
returns c =
    let more = lasts-made _ _ _ _ _ _ c.work_of.ensures c.first_due.ensures c.lasts-more.ensures in
    made_some _ _ _ c.requires _ more _ _ c.if-more-eq0.false
    c.slide-before.ensures c.step.ensures
