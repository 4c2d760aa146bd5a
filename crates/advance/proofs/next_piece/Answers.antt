use Rattle.advance.proofs.Promise.{says-refused, says_none, says-follows, says-whole}
use Rattle.advance.proofs.next_piece.Goals as goal

pub piece_after-requires : goal.piece_after-requires
piece_after-requires c = says-follows _ 0 _ c.step-first.ensures _ c.in-Ok.is

pub returns-in-Err : goal.returns-in-Err
returns-in-Err c = rw c.no_tick.ensures (says-refused _ _ _ c.step-first.ensures _ c.in-Err.is)

pub returns-then-most-eq0 : goal.returns-then-most-eq0
returns-then-most-eq0 c = rw c.no_tick-then-most-eq0.ensures (says_none _ _ _ c.step-first.ensures _ c.in-Ok.is c.if-most-eq0.true)

pub returns-else-most-eq0 : goal.returns-else-most-eq0
returns-else-most-eq0 c =
    says-whole _ _ _ c.step-first.ensures _ c.in-Ok.is c.if-most-eq0.false _
    c.piece_after.ensures
