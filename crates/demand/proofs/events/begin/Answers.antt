use native.Mathlib.Omega.{arith}
use Rattle.demand.specs.Rows.{row_of}
use Rattle.demand.proofs.Inside.Events.{begin-start, begin-can, begin-turn, begin-end}
use Rattle.demand.proofs.events.begin.Goals as goal

pub loop-rest-init : goal.loop-rest-init
loop-rest-init c = begin-start _ _ _ _ c.requires

pub add-k-requires : goal.add-k-requires
add-k-requires c =
    let turn = c.loop-rest in
    rw c.first.ensures (begin-can c.args.kind c.args.event c.args.s.now _ turn.rest.now turn.q turn.k c.requires turn.invariant (row_of c.head-row.result) c.head-row.ensures)

pub loop-rest-preserved : goal.loop-rest-preserved
loop-rest-preserved c =
    let turn = c.loop-rest in
    let added = rw c.first.ensures at c.add-k.ensures in
    rw c.width-step.ensures (begin-turn c.args.kind c.args.event c.args.s.now _ turn.rest.now turn.q turn.k c.requires turn.invariant (row_of c.head-row.result) c.head-row.ensures _ _ added)

pub returns : goal.returns
returns c =
    let turn = c.loop-rest in
    (turn.invariant.within, begin-end c.args.kind c.args.event c.args.s.now _ turn.rest.now turn.q turn.k c.requires turn.invariant (omega (arith, c.width-step.ensures, c.loop-rest-test.false)))
