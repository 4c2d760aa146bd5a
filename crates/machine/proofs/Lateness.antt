-- When a run is on time and when no schedule can be: the laws of the invariant and of schedules, put together.
use mathlib.Core.List.{List}
use Prim.Native.Nat.{ℕ}
use Rattle.demand.specs.Rows.{Row, Positive, Valid}
use Rattle.machine.specs.Lateness.{Reached, fresh, ticked, PassesBelow, PassesOnTime, TimelyPasses, FailsUntimely, SyncOnTime, SyncLate}
use Rattle.machine.specs.Machine.{State}
use Rattle.machine.proofs.Invariant.{safe-on-time, Kept, fresh_kept, tick-kept}
use Rattle.machine.proofs.Least.{on-time-below, late-at}
use Rattle.machine.proofs.No as no

-- Every state that legal arrivals reach keeps the invariant.
reached-kept : (ts hs : List Row) (N : ℕ) (pt : Valid ts) (ph : Positive hs) (passes : PassesBelow ts hs N) {s : State} → Reached ts hs s → Kept N ts hs s
reached-kept ts hs N pt ph passes fresh = fresh_kept N ts hs pt ph passes
reached-kept ts hs N pt ph passes (ticked {s} a reached legal) =
    tick-kept N ts hs pt ph passes a s legal (reached-kept ts hs N pt ph passes reached)

pub passes-on-time : PassesOnTime
passes-on-time ts hs N pt ph passes s reached short = safe-on-time N s short (reached-kept ts hs N pt ph passes reached).safe

pub timely-passes : TimelyPasses
timely-passes ts hs pt ph t xs ys run = no.timely-passes ts hs pt ph run

pub fails-untimely : FailsUntimely
fails-untimely ts hs pt ph t fails xs ys run = no.fails-untimely ts hs pt ph fails run

pub sync-on-time : SyncOnTime
sync-on-time ts hs L pt ph passes = on-time-below ts hs pt ph L passes

pub sync-late : SyncLate
sync-late ts hs L pt ph passes fails = late-at ts hs pt ph L passes fails
