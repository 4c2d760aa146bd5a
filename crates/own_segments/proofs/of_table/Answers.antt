use native.Mathlib.Omega.{arith}
use Rattle.std.proofs.lemmas.Result.{err_from_is_err_and}
use Rattle.own_segments.proofs.Promise.{says-refused, says-started, says-many, says-segments}
use Rattle.own_segments.proofs.of_table.Goals as goal

pub returns-in_err-of_call : goal.returns-in_err-of_call
returns-in_err-of_call c =
    let p = err_from_is_err_and c.from_residual.result c.from_residual.ensures.1 in
    rw (p.1, p.2) (says-refused _ _ _ _ _ c.clear.ensures _ c.in_err-of_call.ensures)

pub draw-drawn-requires : goal.draw-drawn-requires
draw-drawn-requires c =
    says-started _ _ _ c.args.out.now _ c.clear.ensures c.in_ok-of_call.ensures _ _ c.fresh.ensures c.room-room.ensures

pub returns-then-room-drawn : goal.returns-then-room-drawn
returns-then-room-drawn c =
    says-many _ _ _ _ _ c.clear.ensures c.in_ok-of_call.ensures _ c.room-room.ensures _ _
    c.draw-drawn.ensures c.if-room-drawn.true _ c.clear-then-room-drawn.ensures

pub returns : goal.returns
returns c =
    says-segments _ _ _ _ _ c.clear.ensures c.in_ok-of_call.ensures _ c.room-room.ensures _ _
    c.draw-drawn.ensures (λ many. omega (arith, c.if-room-drawn.false))
