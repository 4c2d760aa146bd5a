use Prim.Native.Nat.{suc, ◌-◌}
use Rattle.demand.specs.Rows.{tasks_of, handlers_of}
use Rattle.priority.specs.Inside.Climb.{Climbing}
use Rattle.priority.specs.Inside.Ranks.{claimed}
use Rattle.priority.proofs.climb.up.Given as goal

abbrev pub invariant-loop-at : goal.invariant-loop-at
invariant-loop-at l = Climbing (claimed (tasks_of l.tasks) (handlers_of l.handlers) l.end) l.l l.at

abbrev pub decreases-loop-at : goal.decreases-loop-at
decreases-loop-at l = suc l.deadline - l.at
