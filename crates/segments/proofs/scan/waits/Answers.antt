use mathlib.Core.Path.{ap, ◌∙◌}
use native.Mathlib.Omega.{arith}
use Prim.Native.Nat.{◌+◌, min}
use Rattle.demand.specs.Limits.{tasks_most}
use Rattle.demand.specs.Rows.{handlers_of}
use Rattle.segments.specs.Inside.{handler_given}
use Rattle.segments.proofs.Looks.Scans.{waits_start, waits-turn, waits_end, fair-at, cost-at}
use Rattle.segments.proofs.scan.waits.Goals as goal

pub loop-j-init : goal.loop-j-init
loop-j-init c =
    let x = c.args in
    waits_start x.far x.a (handler_given x.given.now) (handlers_of x.handlers.now)

pub wait-requires : goal.wait-requires
wait-requires c =
    let j = c.loop-j.j in
    record {
      fair =
          fair-at (handlers_of c.args.handlers.now) c.requires.fair _ j c.row_at-row.ensures
          (omega (arith, c.count-count.ensures));
      given = c.requires.counts (tasks_most + j);
      start = c.requires.start;
    }

pub loop-j-preserved : goal.loop-j-preserved
loop-j-preserved c =
    let here = c.loop-j in
    let count = c.count-count.ensures in
    let x = c.args in
    let hs = handlers_of x.handlers.now in
    let row = c.row_at-row.ensures in
    let told = c.min-first.ensures ∙ ap (min here.first) c.wait.ensures in
    waits-turn x.far x.a (handler_given x.given.now) hs here.j here.first _ _ (omega (arith, count))
    here.invariant row (cost-at hs c.requires.fair here.j (omega (arith, count))) told

pub returns : goal.returns
returns c =
    let end = c.loop-j in
    let x = c.args in
    waits_end x.far x.a (handler_given x.given.now) (handlers_of x.handlers.now) end.j end.first
    (omega (arith, c.count-count.ensures)) end.invariant
