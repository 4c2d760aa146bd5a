-- After a no the synchronous run is accepted at every tick below the named interval, over at its end and not before.
use Rattle.demand.proofs.Inside.Sizes.{tasks-valid, handlers-positive}
use Rattle.demand.specs.Rows.{tasks_of, handlers_of}
use Rattle.verdict.specs.Promise.{figures}
use Rattle.guarantees.specs.LateExactly.{LateExactly}
use Rattle.machine.specs.Live.{due_of}
use Rattle.machine.proofs.Least.{on-time-below, late-at}
use Rattle.guarantees.proofs.FirstLate.{first-late}
use Rattle.guarantees.proofs.Named.{named_table, named-shortest, named-soon}

-- Below the shortest length that fails the machine is on time, and there it is late.
pub late-exactly : LateExactly
late-exactly t h r says word =
    let e = named_table t h r says word in
    let vt = tasks-valid t h e in
    let ph = handlers-positive t h e in
    let shortest = named-shortest t h r says word in
    first-late due_of t h e (figures r).interval shortest.positive (named-soon t h r says word)
    (on-time-below (tasks_of t) (handlers_of h) vt ph (figures r).interval shortest.least)
    (late-at (tasks_of t) (handlers_of h) vt ph (figures r).interval shortest.least shortest.fails)
