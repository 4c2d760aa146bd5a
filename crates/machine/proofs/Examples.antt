-- The machine at work on case 9 (01, "Sums done by hand"; its ticks are case 13): all rows arrive at 0 and each period after.
use mathlib.Core.List.{List, [], ◌∷◌, ◌++◌}
use mathlib.Core.Logic.{◌⊎◌, inl, inr}
use mathlib.Core.Path.{◌≡◌, refl, subst, sym}
use native.Mathlib.Nat.{eq-or-lt_of_le}
use native.Mathlib.Omega.{arith}
use Prim.Native.Nat.{ℕ, zero, suc, ◌+◌, ◌<◌}
use Rattle.demand.specs.Rows.{Row}
use Rattle.machine.specs.Live.{Live, due_of, idle, arrive_all, owed_all, OnTime}
use Rattle.machine.specs.Machine.{State, before_by, before, serve, serve_by, tick_by}
use Rattle.machine.specs.Schedules.{beats}
use Rattle.machine.specs.Machine.{sync_by, sync}
use Rattle.machine.proofs.Invariant.{on-time}

-- Tasks 2/5 and 4/8, handler 1/4.
tasks : List Row
tasks = record { cost = 2; period = 5; deadline = 5 } ∷ record { cost = 4; period = 8; deadline = 8 } ∷ []

handlers : List Row
handlers = record { cost = 1; period = 4; deadline = 4 } ∷ []

-- What each row is owed, at n clocks from c on.
owed_of : List Live → List ℕ
owed_of [] = []
owed_of (x ∷ xs) = x.owed ∷ owed_of xs

owed_from : ℕ → ℕ → List (List ℕ)
owed_from c zero = []
owed_from c (suc n) = (owed_of (sync c tasks handlers).tasks ++ owed_of (sync c tasks handlers).handlers) ∷ owed_from (suc c) n

-- The ten ticks go to H0 T0 T0 T1 H0 T1 T1 T1 H0 T0. (H0 arrives at 4 and 8 too, T0 at 5, T1 at 8.)
ticks-9 : owed_from 1 10
    ≡ (2 ∷ 4 ∷ 0 ∷ [])
    ∷ (1 ∷ 4 ∷ 0 ∷ [])
    ∷ (0 ∷ 4 ∷ 0 ∷ [])
    ∷ (0 ∷ 3 ∷ 0 ∷ [])
    ∷ (0 ∷ 3 ∷ 0 ∷ [])
    ∷ (2 ∷ 2 ∷ 0 ∷ [])
    ∷ (2 ∷ 1 ∷ 0 ∷ [])
    ∷ (2 ∷ 0 ∷ 0 ∷ [])
    ∷ (2 ∷ 4 ∷ 0 ∷ [])
    ∷ (1 ∷ 4 ∷ 0 ∷ [])
    ∷ []
unfolding owed_from owed_of tasks handlers sync_by tick_by beats idle arrive_all owed_all before_by serve serve_by
ticks-9 = refl

-- The work of tasks that is due by its clock and still owed, over the first n clocks.
overdue : ℕ → ℕ
overdue zero = 0
overdue (suc n) = before (suc n) (sync n tasks handlers).tasks + overdue n

-- None over all of them: none at each.
none-overdue : (n : ℕ) → overdue n ≡ 0 → (m : ℕ) → m < n → before (suc m) (sync m tasks handlers).tasks ≡ 0
unfolding overdue
none-overdue zero e m h = absurd (omega arith)
none-overdue (suc n) e m h = go (eq-or-lt_of_le {n = m} {m = n} (omega arith)) (none-overdue n (omega arith) m)
  where
    go : (m ≡ n) ⊎ (m < n) → (m < n → before (suc m) (sync m tasks handlers).tasks ≡ 0) → before (suc m) (sync m tasks handlers).tasks ≡ 0
    go (inl same) rest = subst (λ (c : ℕ). before (suc c) (sync c tasks handlers).tasks ≡ 0) (sym same) (omega arith)
    go (inr l) rest = rest l

-- Over the first ten clocks, 0 to 9, there is none.
overdue-9 : overdue 10 ≡ 0
unfolding overdue tasks handlers sync_by tick_by beats idle arrive_all owed_all before_by serve serve_by
overdue-9 = refl

-- On time up to clock 9.
on-time-9 : (n : ℕ) → n < 10 → OnTime n (sync n tasks handlers).tasks
on-time-9 n h = on-time n (sync n tasks handlers).tasks (none-overdue 10 overdue-9 n h)

-- At clock 10 task 0 is owed 1, and its deadline is there: it is late.
task-0 : Live
task-0 = record { row = record { cost = 2; period = 5; deadline = 5 }; next = 10; due = 10; owed = 1 }

due-10 : due_of task-0 ≡ 10
unfolding task-0
due-10 = refl

state-10 : sync 10 tasks handlers
    ≡ record {
      clock = 10;
      tasks = task-0 ∷ record { row = record { cost = 4; period = 8; deadline = 8 }; next = 16; due = 16; owed = 4 } ∷ [];
      handlers = record { row = record { cost = 1; period = 4; deadline = 4 }; next = 12; due = 12; owed = 0 } ∷ [];
    }
unfolding task-0 tasks handlers sync_by tick_by beats idle arrive_all owed_all before_by serve serve_by
state-10 = refl

-- So the run is late there.
late-10 : ¬ OnTime 10 (sync 10 tasks handlers).tasks
unfolding task-0
late-10 on =
    let here = subst (λ (s : State). OnTime 10 s.tasks) state-10 on in
    omega (arith, here.0 due-10)
