use mathlib.Core.Path.{◌≡◌}
use lib.ListN.{length}
use Prim.Native.Nat.{◌≤◌, ◌<◌}
use Rattle.demand.specs.Limits.{ticks_most}
use Rattle.demand.specs.Multiples.{lcm_from, limited}
use Rattle.demand.specs.Refusals.{FairRow}
use Rattle.demand.specs.Rows.{rows_of, Each}
use Rattle.demand.proofs.multiples.of_rows.Given as goal

abbrev pub invariant-loop-rest : goal.invariant-loop-rest
invariant-loop-rest l = record {
  rows : Each FairRow (rows_of l.kind l.rest);
  some : 0 < l.m;
  most : l.m ≤ ticks_most;
  same : limited (lcm_from l.m (rows_of l.kind l.rest)) ≡ limited (lcm_from l.a (rows_of l.kind l.s));
}

abbrev pub decreases-loop-rest : goal.decreases-loop-rest
decreases-loop-rest l = length l.rest
