use Rattle.guard_file.proofs.Inside.Builds.{loop-state, loop-values, loop-sheet, loop-ends, over-long}
use native.Mathlib.Omega.{arith}
use mathlib.Core.Path.{refl, ◌∙◌}
use Rattle.guard_file.proofs.reader.read.Goals as goal

pub returns-then-bytes-gt-FILE_MOST : goal.returns-then-bytes-gt-FILE_MOST
returns-then-bytes-gt-FILE_MOST c = over-long c.args.bytes.now c.if-bytes-gt-FILE_MOST.true

pub loop-b-init : goal.loop-b-init
loop-b-init c = (omega arith, refl, refl, c.bare-sheet.ensures)

pub loop-b-preserved : goal.loop-b-preserved
loop-b-preserved c =
    let bytes = c.args.bytes.now in
    let turn = c.loop-b in
    let inside = c.loop-b-test.true in
    let state = c.step-st.ensures ∙ loop-state bytes turn.b-index _ inside turn.invariant.1 in
    let values = loop-values bytes turn.b-index _ _ _ inside turn.invariant.2 state c.note-row.ensures in
    let sheet = c.feed-sheet.ensures ∙ loop-sheet bytes turn.b-index _ _ _ inside turn.invariant.1 turn.invariant.2 turn.invariant.3 in
    (turn.invariant.0, state, values, sheet)

pub returns : goal.returns
returns c =
    let turn = c.loop-b in
    c.close.ensures
    ∙ loop-ends c.args.bytes.now turn.b-index _ _ _ turn.invariant.0 c.loop-b-test.false turn.invariant.1 turn.invariant.2 turn.invariant.3
