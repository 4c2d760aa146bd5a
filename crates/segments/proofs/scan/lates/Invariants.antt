use Rattle.demand.specs.Rows.{tasks_of}
use Rattle.segments.specs.Inside.{given_at}
use Rattle.segments.proofs.Looks.Scans.{LatesSoFar}
use Rattle.segments.proofs.scan.lates.Given as goal

abbrev pub invariant-loop-j : goal.invariant-loop-j
invariant-loop-j l = LatesSoFar l.far l.a (given_at l.given) l.runner (tasks_of l.tasks) l.j l.first
