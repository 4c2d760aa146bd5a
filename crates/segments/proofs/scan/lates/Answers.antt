use mathlib.Core.Path.{ap, ◌∙◌}
use native.Mathlib.Omega.{arith}
use Prim.Native.Nat.{min}
use Rattle.demand.specs.Rows.{tasks_of}
use Rattle.segments.specs.Inside.{given_at}
use Rattle.segments.proofs.Looks.Scans.{lates-start, lates-turn, lates-end, fair-at, cost-at, sound-at}
use Rattle.segments.proofs.scan.lates.Goals as goal

pub loop-j-init : goal.loop-j-init
loop-j-init c =
    let x = c.args in
    lates-start x.far x.a (given_at x.given.now) x.runner (tasks_of x.tasks.now)

pub offset_bounds-given-j : goal.offset_bounds-given-j
offset_bounds-given-j c =
    omega (arith, c.requires.few, c.count-count.ensures)

pub bounds-given-j : goal.bounds-given-j
bounds-given-j c =
    omega (arith, c.requires.few, c.count-count.ensures)

pub late-requires : goal.late-requires
late-requires c =
    let j = c.loop-j.j in
    let count = c.count-count.ensures in
    let ts = tasks_of c.args.tasks.now in (
      record {
        fair = fair-at ts c.requires.fair _ j c.row_at-row.ensures (omega (arith, count));
        given = c.requires.counts j;
        start = c.requires.start;
      },
      sound-at ts c.requires.valid _ j c.row_at-row.ensures (omega (arith, count)),
    )

pub loop-j-preserved : goal.loop-j-preserved
loop-j-preserved c =
    let here = c.loop-j in
    let count = c.count-count.ensures in
    let x = c.args in
    let ts = tasks_of x.tasks.now in
    let row = c.row_at-row.ensures in
    let told = c.min-first.ensures ∙ ap (min here.first) c.late.ensures in
    lates-turn x.far x.a (given_at x.given.now) x.runner ts here.j here.first _ _ (omega (arith, count))
    (omega (arith, count, c.requires.few)) here.invariant row (cost-at ts c.requires.fair here.j (omega (arith, count))) told

pub returns : goal.returns
returns c =
    let end = c.loop-j in
    let x = c.args in
    lates-end x.far x.a (given_at x.given.now) x.runner (tasks_of x.tasks.now) end.j end.first
    (omega (arith, c.count-count.ensures)) end.invariant
