use Prim.Native.Nat.{◌-◌}
use Rattle.verdict.proofs.Inside.Drain.{Climbing}
use Rattle.verdict.proofs.drain.climb.Given as goal

abbrev pub invariant-loop-s : goal.invariant-loop-s
invariant-loop-s l = Climbing l.initial.a l.initial.b l.asked l.n l.a l.b l.s

abbrev pub decreases-loop-s : goal.decreases-loop-s
decreases-loop-s l = l.n - l.s
