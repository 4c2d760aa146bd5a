use mathlib.Core.Path.{ap, ◌∙◌}
use lib.ListN.{length, take}
use Rattle.charge_lines.specs.Line.{doubled}
use Rattle.charge_lines.proofs.Quoting.{turn-room, turn_end, turn-page, doubled-start, doubled-done, doubled-room}
use Rattle.page.proofs.Laid.{laid-length}
use Rattle.charge_lines.proofs.names.doubled.Goals as goal

pub loop-b-init : goal.loop-b-init
loop-b-init c = doubled-start c.args.page.now c.args.name.now c.args.at c.requires

pub put-to-requires : goal.put-to-requires
put-to-requires c = turn-room c.args.page.now c.args.name.now c.args.at c.requires c.loop-b.page c.loop-b.to c.loop-b.b-index c.loop-b-test.true c.loop-b.invariant.0 c.loop-b.invariant.1

pub loop-b-preserved : goal.loop-b-preserved
loop-b-preserved c =
    let l = c.loop-b in (
      turn_end c.args.page.now c.args.name.now c.args.at c.requires l.page l.to l.b-index c.loop-b-test.true l.invariant.0 l.invariant.1 _ c.put-to.ensures.0,
      turn-page c.args.page.now c.args.name.now c.args.at c.requires l.page l.to l.b-index c.loop-b-test.true l.invariant.0 l.invariant.1 _ c.put-to.ensures.1,
    )

pub shape_of-page : goal.shape_of-page
shape_of-page c =
    ap length c.loop-b.invariant.1 ∙ laid-length c.args.page.now (doubled (take c.loop-b.b-index c.args.name.now)) c.args.at (doubled-room c.args.page.now c.args.name.now c.args.at c.requires c.loop-b.b-index)

pub returns : goal.returns
returns c =
    doubled-done c.args.page.now c.args.name.now c.args.at c.loop-b.page c.loop-b.to c.loop-b.b-index c.loop-b-test.false c.loop-b.invariant
