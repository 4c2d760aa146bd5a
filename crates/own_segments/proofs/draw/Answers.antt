use mathlib.Core.Path.{refl}
use native.Mathlib.Omega.{arith}
use Rattle.own_segments.proofs.Walks.{walked_start, onward, walked-turning}
use Rattle.own_segments.proofs.Walks.{walked_end, walked-next-by, walked-fits}
use Rattle.own_segments.proofs.draw.Goals as goal

pub loop-clock-init : goal.loop-clock-init
loop-clock-init c = walked_start _ _ _ _ _ _ c.requires

pub turn-next-requires : goal.turn-next-requires
turn-next-requires c =
    let on
    = onward c.loop-clock.clock c.args.span c.loop-clock.at.over c.loop-clock.pen.count
    c.args.room c.loop-clock-test.true in
    walked-turning _ _ _ _ _ _ _ _ _ c.loop-clock.invariant on.0 on.1

pub moved-pen-requires : goal.moved-pen-requires
moved-pen-requires c =
    let w = c.loop-clock.invariant in
    (walked-fits _ _ _ _ _ _ _ _ _ w, w.few)

pub overflow_add-clock : goal.overflow_add-clock
overflow_add-clock c =
    omega (arith, c.turn-next.ensures.within, c.loop-clock.invariant.soon)

pub loop-clock-smaller : goal.loop-clock-smaller
loop-clock-smaller c =
    omega (arith, c.turn-next.ensures.within, c.turn-next.ensures.some)

pub loop-clock-preserved : goal.loop-clock-preserved
loop-clock-preserved c =
    let on
    = onward c.loop-clock.clock c.args.span c.loop-clock.at.over c.loop-clock.pen.count
    c.args.room c.loop-clock-test.true in
    let moved = c.moved-pen.ensures in
    walked-next-by _ _ _ _ _ _ _ _ _ c.loop-clock.invariant _ on.2 c.turn-next.ensures _ _
    moved.0 moved.1

pub closed-count-requires : goal.closed-count-requires
closed-count-requires c =
    let w = c.loop-clock.invariant in
    (walked-fits _ _ _ _ _ _ _ _ _ w, w.few)

pub returns : goal.returns
returns c =
    let closed = c.closed-count.ensures in
    walked_end _ _ _ _ _ _ _ _ _ c.loop-clock.invariant
    c.loop-clock-test.false _ refl _ _ closed.0 closed.1
