-- Contents. What a sheet promises of the scheduler (00, demand 3), said of the very definitions that `verdict`, `responses`,
-- `Run::fresh` and `step` promise.
-- accepted arrivals come no sooner than a period after the last and bring at most the cost, and the reverse
pub mod LegalArrivals
-- so two accepted arrivals of a row are at least its period apart, whatever is offered between them
pub mod PeriodApart
-- patterns of arrivals, and which of them are legal
pub mod Patterns
-- after a yes every legal pattern of arrivals is accepted at every tick, and nobody is late
pub mod LegalOnTime
-- after a yes no run from fresh is ever over, whatever is offered and however often it is refused
pub mod NeverLate
-- the synchronous run of a table: each row at tick 0 and each period after, with its full cost
pub mod Synchronous
-- after a no the synchronous run is accepted at every tick below the named interval, over at its end and not before
pub mod LateExactly
-- after a no no schedule that puts handlers first meets every deadline up to the end of the named interval; and the reverse
pub mod NoScheduler
-- a run seen as a state of the machine
pub mod View
-- the synchronous run of `fresh` and `step` is our machine's, and such a schedule, for as long as it is not over
pub mod OurRun
-- fixed priorities: on time where every task has a response, late where one has none, and then no table that fits here misses
pub mod Priority
