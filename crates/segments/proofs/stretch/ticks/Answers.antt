use Rattle.demand.specs.Limits.{tasks_most}
use Rattle.demand.specs.Rows.{tasks_of, handlers_of}
use Prim.Native.Nat.{◌-◌}
use Rattle.segments.proofs.Looks.Scans.{fair-at}
use Rattle.segments.proofs.Looks.Stretches.{ticks-task, ticks-handler, ticks-nobody}
use Rattle.segments.proofs.stretch.ticks.Goals as goal

pub lapse-lapse-requires : goal.lapse-lapse-requires
lapse-lapse-requires c =
    let x = c.args in
    record {
      fair =
          fair-at (tasks_of x.tasks.now) c.requires.range.tasks _ x.runner c.row_at-row.ensures
          (c.requires.task c.if-runner-lt-TASKS_MOST.true);
      given = c.requires.counts x.runner;
      start = c.requires.start;
    }

pub returns-then-runner-lt-TASKS_MOST : goal.returns-then-runner-lt-TASKS_MOST
returns-then-runner-lt-TASKS_MOST c =
    let x = c.args in
    ticks-task x.far x.a (tasks_of x.tasks.now) (handlers_of x.handlers.now) x.given.now x.runner
    c.if-runner-lt-TASKS_MOST.true _ _ _ _ c.row_at-row.ensures
    c.lapse-lapse.ensures c.waits.ensures c.min.ensures

pub lapse-requires : goal.lapse-requires
lapse-requires c =
    let x = c.args in
    let row = c.requires.handler c.if-runner-lt-TASKS_MOST.false c.if-runner-lt-PLACES.true in
    record {
      fair =
          fair-at (handlers_of x.handlers.now) c.requires.range.handlers _ (x.runner - tasks_most) c.row_at-row-then-runner-lt-PLACES.ensures row;
      given = c.requires.counts x.runner;
      start = c.requires.start;
    }

pub returns-then-runner-lt-PLACES : goal.returns-then-runner-lt-PLACES
returns-then-runner-lt-PLACES c =
    let x = c.args in
    ticks-handler x.far x.a (tasks_of x.tasks.now) (handlers_of x.handlers.now) x.given.now x.runner
    c.if-runner-lt-TASKS_MOST.false c.if-runner-lt-PLACES.true _ _ c.row_at-row-then-runner-lt-PLACES.ensures
    c.lapse.ensures

pub returns : goal.returns
returns c =
    let x = c.args in
    ticks-nobody x.far x.a (tasks_of x.tasks.now) (handlers_of x.handlers.now) x.given.now x.runner
    c.if-runner-lt-PLACES.false _ c.waits-2.ensures
