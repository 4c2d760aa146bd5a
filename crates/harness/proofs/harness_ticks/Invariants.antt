use mathlib.Core.Path.{◌≡◌}
use Prim.Native.Nat.{◌+◌, ◌≤◌}
use lib.ListN.{replicate}
use Rattle.machine.specs.Live.{due_of}
use Rattle.scheduler.specs.Books.{busy_by}
use Rattle.harness.proofs.Counted.{to_come}
use Rattle.harness.proofs.harness_ticks.Given as goal

abbrev pub invariant-loop-i : goal.invariant-loop-i
invariant-loop-i l =
    (l.count ≤ l.i) × (l.count + to_come l.ticks l.i l.rest l.run ≡ busy_by due_of (replicate l.ticks l.rest) l.initial.run)
