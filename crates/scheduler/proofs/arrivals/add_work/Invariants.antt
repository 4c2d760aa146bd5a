use mathlib.Core.Path.{◌≡◌}
use Prim.Native.Nat.{◌+◌}
use lib.ListN.{get_or}
use Rattle.scheduler.specs.Scans.{filled}
use Rattle.scheduler.proofs.arrivals.add_work.Given as goal

abbrev pub invariant-loop-k : goal.invariant-loop-k
invariant-loop-k l = l.owed ≡ filled (λ j. get_or l.initial.owed j 0 + get_or l.arrivals j 0) l.k l.initial.owed
