use Prim.Native.Nat.{◌≤◌}
use Rattle.own_segments.specs.Inside.{QuietTo}
use Rattle.own_segments.proofs.arrivals.gap.Given as goal

abbrev pub invariant-loop-k : goal.invariant-loop-k
invariant-loop-k l = (l.least ≤ l.most) × QuietTo l.tasks l.handlers l.tick l.least l.k
