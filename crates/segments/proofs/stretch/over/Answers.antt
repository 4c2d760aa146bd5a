use Rattle.demand.specs.Rows.{tasks_of, handlers_of}
use Rattle.segments.proofs.Walks.Steps.{ready-gap, over-gap, over-segment}
use Rattle.segments.proofs.stretch.over.Goals as goal

pub broken-requires : goal.broken-requires
broken-requires c = (ready-gap _ _ _ _ _ c.requires.0, c.requires.1)

pub returns-in-Some : goal.returns-in-Some
returns-in-Some c =
    let x = c.args in
    over-gap (tasks_of x.tasks.now) (handlers_of x.handlers.now) x.given.now x.place x.a x.from x.to _ c.in-Some.ensures

pub returns-in-None : goal.returns-in-None
returns-in-None c =
    let x = c.args in
    over-segment (tasks_of x.tasks.now) (handlers_of x.handlers.now) x.given.now x.place x.a x.from x.to _ c.in-None.ensures c.broken-in-None.ensures
