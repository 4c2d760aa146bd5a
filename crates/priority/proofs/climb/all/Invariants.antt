use Prim.Native.Nat.{◌-◌, ◌<◌}
use Rattle.demand.specs.Rows.{tasks_of, handlers_of}
use Rattle.priority.specs.Inside.Climb.{Searched}
use Rattle.priority.specs.Inside.Ranks.{past_ranks}
use Rattle.priority.proofs.Inside.Search.{PlacedAt}
use Rattle.priority.proofs.climb.all.Given as goal

-- The tasks of a rank below the present one are done, and that is the rank of a task, or past them all.
abbrev pub invariant-loop-rank : goal.invariant-loop-rank
invariant-loop-rank l =
    Searched (tasks_of l.tasks) (handlers_of l.handlers) l.rank l.l l.least × (l.rank < past_ranks → PlacedAt (tasks_of l.tasks) l.rank)

abbrev pub decreases-loop-rank : goal.decreases-loop-rank
decreases-loop-rank l = past_ranks - l.rank
