use mathlib.Core.Path.{◌≡◌}
use lib.ListN.{drop}
use Prim.Native.Nat.{◌*◌}
use Rattle.segments.specs.Promise.{disordered}
use Rattle.segments.specs.Segments.{segments_of}
use Rattle.segments.proofs.segment.disordered.Given as goal

abbrev pub invariant-loop-k : goal.invariant-loop-k
invariant-loop-k l = (disordered l.n l.m l.span l.a (segments_of (drop (4 * l.k) l.s)) ≡ disordered l.n l.m l.span 0 (segments_of l.s))
