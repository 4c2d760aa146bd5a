use mathlib.Core.Path.{◌∙◌}
use Rattle.layout.proofs.Table.{read-says}
use Rattle.layout.proofs.Inside.Builds.{loop-room, loop-state, loop-table, loop-ends, over-long}
use Rattle.layout.proofs.reader.read.Goals as goal

pub returns-then-bytes-gt-FILE_MOST : goal.returns-then-bytes-gt-FILE_MOST
returns-then-bytes-gt-FILE_MOST c =
    let bytes = c.args.bytes.now in
    read-says bytes _ (over-long bytes c.if-bytes-gt-FILE_MOST.true)

pub feed-requires : goal.feed-requires
feed-requires c =
    let bytes = c.args.bytes.now in
    let turn = c.loop-b in
    loop-room _ bytes turn.invariant.0 turn.b-index _ turn.invariant.2

pub loop-b-preserved : goal.loop-b-preserved
loop-b-preserved c =
    let bytes = c.args.bytes.now in
    let turn = c.loop-b in
    let inside = c.loop-b-test.true in
    let state = c.step-st.ensures ∙ loop-state _ bytes turn.invariant.0 turn.b-index _ inside turn.invariant.1 in
    let table = c.feed.ensures ∙ loop-table _ bytes turn.invariant.0 turn.b-index _ _ inside turn.invariant.1 turn.invariant.2 in
    (turn.invariant.0, state, table, turn.invariant.3)

pub close-requires : goal.close-requires
close-requires c =
    let bytes = c.args.bytes.now in
    let turn = c.loop-b in
    loop-room _ bytes turn.invariant.0 turn.b-index _ turn.invariant.2

pub returns : goal.returns
returns c =
    let bytes = c.args.bytes.now in
    let turn = c.loop-b in
    let ends = rw c.if-not-close.false at c.close.ensures in
    read-says bytes _ (ends ∙ loop-ends _ bytes turn.invariant.0 turn.b-index _ _ turn.invariant.3 c.loop-b-test.false turn.invariant.1 turn.invariant.2)

pub returns-then-not-close : goal.returns-then-not-close
returns-then-not-close c =
    let bytes = c.args.bytes.now in
    let turn = c.loop-b in
    let ends = rw c.if-not-close.true at c.close.ensures in
    read-says bytes _ (ends ∙ loop-ends _ bytes turn.invariant.0 turn.b-index _ _ turn.invariant.3 c.loop-b-test.false turn.invariant.1 turn.invariant.2)
