use mathlib.Core.Path.{ap, ◌∙◌}
use Rattle.advance.proofs.Quietly.{zeros-take, zeros-take-length, quiet-near}
use Rattle.scheduler.specs.Steps.{step_of}
use Rattle.advance.proofs.quiet.step.Goals as goal

pub slice_bounds-step-end : goal.slice_bounds-step-end
slice_bounds-step-end c = zeros-take-length _ _ c.rows-count.ensures.0 c.zeros-none.ensures

pub returns : goal.returns
returns c =
    c.step.ensures.answer
    ∙ ap (step_of _) (zeros-take _ _ c.rows-count.ensures.0 c.zeros-none.ensures)
    ∙ quiet-near _ _ c.rows-count.ensures.1
