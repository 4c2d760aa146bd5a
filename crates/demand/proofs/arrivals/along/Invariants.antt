use mathlib.Core.Path.{◌≡◌}
use Prim.Native.Nat.{ℕ, ◌+◌, ◌-◌}
use lib.ListN.{length}
use Rattle.walk.specs.Queue.{head, to_come}
use Rattle.demand.specs.Inside.Arrivals.{Follows, Level}
use Rattle.demand.proofs.arrivals.along.Given as goal

abbrev pub invariant-loop-q : goal.invariant-loop-q
invariant-loop-q l =
    Level l.q l.w l.m
    × (length l.q ≡ length l.initial.q)
    × (l.w.called + to_come l.q l.m ≡ l.initial.w.called + to_come l.initial.q l.m)
    × ((a : ℕ → ℕ) → Follows a l.initial.q l.initial.w → Follows a l.q l.w)

abbrev pub decreases-loop-q : goal.decreases-loop-q
decreases-loop-q l = l.m + 1 - (head l.q).next
