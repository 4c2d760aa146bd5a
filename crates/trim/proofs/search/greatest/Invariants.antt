use Prim.Native.Nat.{◌-◌}
use Rattle.trim.specs.Inside.{Between}
use Rattle.trim.proofs.search.greatest.Given as goal

abbrev pub invariant-loop-low : goal.invariant-loop-low
invariant-loop-low l = Between l.tasks l.handlers l.row l.most l.low l.high l.turns

abbrev pub decreases-loop-low : goal.decreases-loop-low
decreases-loop-low l = l.high - l.low
