use native.Mathlib.Omega.{arith}
use Rattle.std.proofs.Common.{rules}
use Prim.Native.Nat.{◌≤◌}
use lib.ListN.{length}
use Rattle.walk.proofs.Taking.{taking-most, taking-less, taking-turn, taking-end}
use Rattle.walk.proofs.take_to.Goals as goal

pub overflow_add-s : goal.overflow_add-s
overflow_add-s c =
    let some : 1 ≤ length c.args.q.now = search rules in
    let turn = c.loop-q in
    omega (arith, taking-most c.args.n c.args.q.now c.args.sum turn.q turn.s turn.invariant some (omega arith), c.requires.fits)

pub loop-q-smaller : goal.loop-q-smaller
loop-q-smaller c =
    let some : 1 ≤ length c.args.q.now = search rules in
    let turn = c.loop-q in
    rw c.settle.ensures (taking-less _ c.args.q.now c.args.sum turn.q turn.s turn.invariant some (omega arith))

pub loop-q-preserved : goal.loop-q-preserved
loop-q-preserved c =
    let some : 1 ≤ length c.args.q.now = search rules in
    let turn = c.loop-q in
    rw c.settle.ensures (taking-turn _ c.args.q.now c.args.sum turn.q turn.s turn.invariant some (omega arith))

pub shape_of-q : goal.shape_of-q
shape_of-q c = c.loop-q.invariant.long

pub returns : goal.returns
returns c =
    let turn = c.loop-q in
    taking-end _ _ _ _ _ turn.invariant (omega arith)
