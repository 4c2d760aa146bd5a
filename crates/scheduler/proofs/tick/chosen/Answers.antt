use mathlib.Core.List.{List}
use mathlib.Core.Path.{ap, ◌∙◌}
use Prim.Native.Nat.{ℕ}
use Rattle.scheduler.specs.Scans.{at}
use Rattle.scheduler.specs.Tick.{goes_to}
use Rattle.scheduler.proofs.Steps.Keys.{periods-keys}
use Rattle.scheduler.proofs.tick.chosen.Goals as goal

pub returns-in-Deadline : goal.returns-in-Deadline
returns-in-Deadline c = rw c.in-Deadline.is c.goes_to.ensures

pub returns-in-Period : goal.returns-in-Period
returns-in-Period c =
    let run = c.args.run.now in
    rw c.in-Period.is
    (c.goes_to-in-Period.ensures
    ∙ ap (λ (ps : List ℕ). goes_to (at ps) run.owed run.task_count run.handler_count) c.periods.ensures
    ∙ periods-keys run.tasks run.due run.owed run.task_count run.handler_count c.requires.tasks)
