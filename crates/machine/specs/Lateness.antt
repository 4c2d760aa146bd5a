-- When a run is on time and when no schedule can be (00, demand 3), of tables seen as rows.
--   Reached ts hs s        legal arrivals bring the fresh table to state s, tick by tick, the earliest deadline first
--   PassesOnTime           where every length below N passes, no state that they reach is late at a clock below N
--   TimelyPasses           a table that some schedule brings to clock t on time passes at t
--   FailsUntimely          so where a length fails, no schedule that puts handlers first meets every deadline up to it
--   SyncOnTime, SyncLate   our synchronous run is on time below the least length that fails, and late there
use Rattle.std.specs.Prelude.{List, ℕ, ◌<◌}
use Rattle.demand.specs.Demands.{Passes, Fails}
use Rattle.demand.specs.Rows.{Row, Positive, Valid}
use Rattle.machine.specs.Inside.Legal.{LegalTick}
use Rattle.machine.specs.Live.{Live, OnTime}
use Rattle.machine.specs.Machine.{State, Arrivals, fresh_state, tick, sync}
use Rattle.machine.specs.Schedules.{Timely}

pub data Reached (ts hs : List Row) : State → Type 0 where
  fresh : Reached ts hs (fresh_state ts hs)
  ticked : {s : State} (a : Arrivals) → Reached ts hs s → LegalTick a s → Reached ts hs (tick a s)

abbrev pub PassesBelow : List Row → List Row → ℕ → Type 0
PassesBelow ts hs N = (l : ℕ) → 0 < l → l < N → Passes ts hs l

abbrev pub PassesOnTime : Type 0
PassesOnTime =
    (ts hs : List Row) (N : ℕ) → Valid ts → Positive hs → PassesBelow ts hs N
    → (s : State) → Reached ts hs s → s.clock < N → OnTime s.clock s.tasks

abbrev pub TimelyPasses : Type 0
TimelyPasses = (ts hs : List Row) → Valid ts → Positive hs → (t : ℕ) (xs ys : List Live) → Timely ts hs t xs ys → Passes ts hs t

abbrev pub FailsUntimely : Type 0
FailsUntimely =
    (ts hs : List Row) → Valid ts → Positive hs → (t : ℕ) → Fails ts hs t → (xs ys : List Live) → ¬ Timely ts hs t xs ys

abbrev pub SyncOnTime : Type 0
SyncOnTime =
    (ts hs : List Row) (L : ℕ) → Valid ts → Positive hs → PassesBelow ts hs L
    → (n : ℕ) → n < L → OnTime n (sync n ts hs).tasks

abbrev pub SyncLate : Type 0
SyncLate =
    (ts hs : List Row) (L : ℕ) → Valid ts → Positive hs → PassesBelow ts hs L → Fails ts hs L → ¬ OnTime L (sync L ts hs).tasks
