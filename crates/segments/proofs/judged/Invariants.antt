use Prim.Native.Nat.{◌*◌}
use Rattle.segments.specs.Inside.{Walked}
use Rattle.segments.proofs.judged.Given as goal

abbrev pub invariant-loop-k : goal.invariant-loop-k
invariant-loop-k l = Walked l.tasks l.handlers l.segments l.span l.given l.a (4 * l.k)
