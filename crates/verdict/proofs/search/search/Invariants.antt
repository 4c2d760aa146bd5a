use mathlib.Core.Path.{◌≡◌}
use Prim.Native.Nat.{◌-◌, ◌≤◌}
use lib.ListN.{length}
use Rattle.demand.specs.Rows.{tasks_of, handlers_of}
use Rattle.demand.specs.Tests.{pick}
use Rattle.verdict.specs.Inside.Drain.{Looking}
use Rattle.verdict.specs.Inside.Search.{Searched}
use Rattle.verdict.proofs.search.search.Given as goal

abbrev pub invariant-loop-t : goal.invariant-loop-t
invariant-loop-t l =
    Searched (tasks_of l.tasks) (handlers_of l.handlers) l.t l.h l.p l.d l.tested
    × Looking (tasks_of l.tasks) (handlers_of l.handlers) l.a l.b l.asked
    × (l.p.at ≤ l.end)
    × (length l.t ≡ length l.initial.t)
    × (length l.h ≡ length l.initial.h)
    × (length l.a ≡ length l.initial.a)
    × (length l.b ≡ length l.initial.b)
    × (pick l.looks l.p.at 0 ≤ l.asked)

abbrev pub decreases-loop-t : goal.decreases-loop-t
decreases-loop-t l = l.end - l.p.at
