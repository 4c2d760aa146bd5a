use mathlib.Core.Path.{refl, sym, ◌∙◌}
use native.Mathlib.Omega.{arith}
use Rattle.walk.proofs.Queue.{head-ahead}
use Rattle.demand.proofs.Inside.Arrivals.{come-least, come-can, come-level, come-follows, come-later, come-over}
use Rattle.demand.proofs.arrivals.along.Goals as goal

pub loop-q-init : goal.loop-q-init
loop-q-init c = (c.requires.0, refl, refl, λ a f. f)

pub bounds-q-0 : goal.bounds-q-0
bounds-q-0 c = omega (arith, c.requires.1, c.loop-q.invariant.1)

pub bounds-q-0-in-loop-q : goal.bounds-q-0-in-loop-q
bounds-q-0-in-loop-q c = omega (arith, c.requires.1, c.loop-q.invariant.1)

pub overflow_sub-q : goal.overflow_sub-q
overflow_sub-q c =
    let turn = c.loop-q in
    omega (arith, come-least turn.q turn.w c.args.m turn.invariant.0 (omega (arith, c.requires.1, turn.invariant.1)) (omega arith))

pub wait-w-requires : goal.wait-w-requires
wait-w-requires c =
    let turn = c.loop-q in
    (omega (arith, come-least turn.q turn.w c.args.m turn.invariant.0 (omega (arith, c.requires.1, turn.invariant.1)) (omega arith)), omega (arith, turn.invariant.0.ticks), omega (arith, turn.invariant.0.low, turn.invariant.0.fits))

pub take-requires : goal.take-requires
take-requires c =
    let turn = c.loop-q in
    rw c.wait-w.ensures (come-can turn.q turn.w c.args.m turn.invariant.0 (omega (arith, c.requires.1, turn.invariant.1)) (omega arith))

pub loop-q-smaller : goal.loop-q-smaller
loop-q-smaller c =
    let turn = c.loop-q in
    let took = rw c.wait-w.ensures at c.take.ensures in
    omega (arith, come-later turn.q turn.w c.args.m turn.invariant.0 (omega (arith, c.requires.1, turn.invariant.1)) (omega arith) c.take.new.q c.take.result took)

pub loop-q-preserved : goal.loop-q-preserved
loop-q-preserved c =
    let turn = c.loop-q in
    let took = rw c.wait-w.ensures at c.take.ensures in
    rw c.wait-w.ensures (come-level turn.q turn.w c.args.m turn.invariant.0 (omega (arith, c.requires.1, turn.invariant.1)) (omega arith) _ _ took, took.long ∙ turn.invariant.1, sym (took.same _ (omega arith)) ∙ turn.invariant.2, λ a f. come-follows turn.q turn.w c.args.m turn.invariant.0 (omega (arith, c.requires.1, turn.invariant.1)) (omega arith) _ _ took a (turn.invariant.3 a f))

pub wait-requires : goal.wait-requires
wait-requires c =
    let turn = c.loop-q in
    (turn.invariant.0.before, turn.invariant.0.ticks, omega (arith, turn.invariant.0.low, turn.invariant.0.fits))

pub shape_of-q : goal.shape_of-q
shape_of-q c = c.loop-q.invariant.1

pub returns : goal.returns
returns c =
    let turn = c.loop-q in
    come-over _ _ turn.q turn.w _ _ turn.invariant.0 turn.invariant.1 turn.invariant.2 turn.invariant.3
    (head-ahead turn.q c.args.m turn.invariant.0.queue (omega arith)) c.wait.ensures
