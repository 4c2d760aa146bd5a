use mathlib.Core.Path.{◌≡◌}
use Prim.Native.Nat.{◌<◌}
use lib.ListN.{length}
use Rattle.walk.proofs.Settling.{settled}
use Rattle.walk.proofs.settle.Given as goal

abbrev pub invariant-loop-i : goal.invariant-loop-i
invariant-loop-i l = (l.i < length l.q) × (length l.q ≡ length l.initial.q) × (settled l.q l.i l.e ≡ settled l.initial.q l.k l.e)
