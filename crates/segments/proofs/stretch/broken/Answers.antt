use Rattle.demand.specs.Rows.{tasks_of, handlers_of}
use Rattle.segments.proofs.Looks.Stretches.{told-broken, told-fine}
use Rattle.segments.proofs.stretch.broken.Goals as goal

pub returns-then-x-b : goal.returns-then-x-b
returns-then-x-b c =
    let x = c.args in
    told-broken (tasks_of x.tasks.now) (handlers_of x.handlers.now) x.given.now x.runner x.a x.b _ _
    c.ticks-x.ensures c.lates-y.ensures _ c.min.ensures
    c.if-x-b.true

pub returns-else-x-b : goal.returns-else-x-b
returns-else-x-b c =
    let x = c.args in
    told-fine (tasks_of x.tasks.now) (handlers_of x.handlers.now) x.given.now x.runner x.a x.b _ _
    c.ticks-x.ensures c.lates-y.ensures c.if-x-b.false
