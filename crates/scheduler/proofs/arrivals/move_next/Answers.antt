use mathlib.Core.Path.{◌∙◌, sym, ap}
use native.Mathlib.Omega.{arith}
use borrow.Author.Rules.{rules}
use Rattle.demand.specs.Rows.{Row}
use Rattle.scheduler.specs.Runs.{row_in, row_count}
use Rattle.scheduler.specs.Tick.{next_arrived}
use Rattle.scheduler.proofs.Steps.RowPlaces.{fair-at}
use Rattle.scheduler.proofs.Steps.Scan.{filled_zero, filled-old, filled-turn, filled-end}
use Rattle.scheduler.proofs.arrivals.move_next.Goals as goal

pub loop-k-init : goal.loop-k-init
loop-k-init c = sym (filled_zero _ _)

pub ahead-requires : goal.ahead-requires
ahead-requires c =
    let run = c.args.run.now in
    let fair = fair-at (row_in run) (row_count run) c.loop-k.k c.requires.0.figures (search rules) in
    omega (arith, fair.period.most, ap (λ (r : Row). r.period) c.row_at-row.ensures)

pub loop-k-preserved : goal.loop-k-preserved
loop-k-preserved c = filled-turn _ _ _ _ _ c.loop-k.invariant (c.ahead.ensures ∙ simp (ap (λ (r : Row). r.period) c.row_at-row.ensures, filled-old _ _ _ _ c.loop-k.invariant))

pub returns : goal.returns
unfolding next_arrived
returns c = filled-end _ _ _ _ _ (search rules) c.loop-k-test.false c.loop-k.invariant
