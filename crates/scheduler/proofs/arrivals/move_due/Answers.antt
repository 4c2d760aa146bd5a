use mathlib.Core.Path.{◌∙◌, sym, ap}
use native.Mathlib.Omega.{arith}
use borrow.Author.Rules.{rules}
use Rattle.demand.specs.Rows.{Row}
use Rattle.scheduler.specs.Runs.{row_in, row_count}
use Rattle.scheduler.specs.Tick.{due_arrived}
use Rattle.scheduler.proofs.Steps.RowPlaces.{fair-at, sound-at}
use Rattle.scheduler.proofs.Steps.Scan.{filled_zero, filled-old, filled-turn, filled-end}
use Rattle.scheduler.proofs.arrivals.move_due.Goals as goal

pub loop-k-init : goal.loop-k-init
loop-k-init c = sym (filled_zero _ _)

pub ahead-requires : goal.ahead-requires
ahead-requires c =
    let run = c.args.run.now in
    let k = c.loop-k.k in
    let fair = fair-at (row_in run) (row_count run) k c.requires.0.figures (search rules) in
    let sound = sound-at (row_in run) run.task_count k c.requires.0.own c.loop-k-test.true in
    let read = c.row_at-row.ensures in
    omega (arith, fair.period.most, sound.fits, ap (λ (r : Row). r.period) read, ap (λ (r : Row). r.deadline) read)

pub loop-k-preserved : goal.loop-k-preserved
loop-k-preserved c = filled-turn _ _ _ _ _ c.loop-k.invariant (c.ahead.ensures ∙ simp (ap (λ (r : Row). r.deadline) c.row_at-row.ensures, filled-old _ _ _ _ c.loop-k.invariant))

pub returns : goal.returns
unfolding due_arrived
returns c = filled-end _ _ _ _ _ (search rules) c.loop-k-test.false c.loop-k.invariant
