use Rattle.advance.proofs.Turns.{gone-start, gone-turn, gone-fewer, gone-end, none-gone, going}
use Rattle.advance.proofs.advance.Goals as goal

pub returns-then-ticks-eq0 : goal.returns-then-ticks-eq0
returns-then-ticks-eq0 c = none-gone _ _ _ c.if-ticks-eq0.true c.next_piece.ensures

pub loop-left-init : goal.loop-left-init
loop-left-init c = gone-start _ _

pub overflow_sub-left : goal.overflow_sub-left
overflow_sub-left c = c.next_piece-next.ensures.at_most

pub loop-left-smaller : goal.loop-left-smaller
loop-left-smaller c =
    let on = going c.loop-left.left c.loop-left.refusal c.is_none.result c.is_none.ensures c.loop-left-test.true in
    gone-fewer _ _ _ _ _ c.loop-left.invariant _ c.next_piece-next.ensures on.0 on.1

pub loop-left-preserved : goal.loop-left-preserved
loop-left-preserved c =
    let on = going c.loop-left.left c.loop-left.refusal c.is_none.result c.is_none.ensures c.loop-left-test.true in
    gone-turn _ _ _ _ _ c.loop-left.invariant _ c.next_piece-next.ensures on.0

pub overflow_sub-result : goal.overflow_sub-result
overflow_sub-result c = c.loop-left.invariant.le

pub returns : goal.returns
returns c = gone-end _ _ _ _ _ c.loop-left.invariant c.if-ticks-eq0.false c.is_none.result c.is_none.ensures c.loop-left-test.false
