use mathlib.Core.Path.{refl, sym, ap, ◌∙◌}
use native.Mathlib.Omega.{arith}
use Rattle.demand.specs.Rows.{Row}
use Rattle.machine.specs.Schedules.{beat}
use Rattle.scheduler.proofs.Steps.Scan.{filled_zero, filled-turn}
use Rattle.own_segments.proofs.Lists.{filled-long}
use Rattle.own_segments.proofs.Rhythms.{rows_few, rows-fair, beats-taken}
use Rattle.own_segments.proofs.arrivals.beats.Goals as goal

pub count-all-requires : goal.count-all-requires
count-all-requires c = c.requires

pub loop-k-init : goal.loop-k-init
loop-k-init c = sym (filled_zero _ _)

pub row_at-requires : goal.row_at-requires
row_at-requires c = (c.requires, c.count-n.ensures, omega (arith, c.count-all.ensures))

pub beat-requires : goal.beat-requires
beat-requires c = rw c.row_at.ensures (rows-fair _ _ c.requires _ (omega (arith, c.count-all.ensures)))

pub offset_bounds-ws-k : goal.offset_bounds-ws-k
offset_bounds-ws-k c = omega (arith, rows_few _ _ c.requires, c.count-all.ensures)

pub bounds-ws-k : goal.bounds-ws-k
bounds-ws-k c = omega (arith, rows_few _ _ c.requires, c.count-all.ensures)

pub loop-k-preserved : goal.loop-k-preserved
loop-k-preserved c = filled-turn _ _ _ _ _ c.loop-k.invariant (c.beat.ensures ∙ ap (λ (r : Row). beat c.args.tick r) c.row_at.ensures)

pub returns : goal.returns
returns c =
    let all = c.count-all.ensures in
    let loop = c.loop-k in (
      filled-long _ _ _ _ loop.invariant,
      beats-taken _ _ _ _ _ _ refl (rows_few _ _ c.requires) (omega (arith, all)) (omega (arith, all)) loop.invariant,
    )
