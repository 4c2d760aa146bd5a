-- Schedules that put handlers first and meet every deadline, and are not ours: so `NoScheduler` speaks of more than our own machine (00, demand 3).
use mathlib.Core.List.{List, [], ◌∷◌}
use mathlib.Core.Path.{◌≡◌, refl}
use native.Mathlib.Omega.{arith}
use Prim.Native.Nat.{ℕ}
use Rattle.demand.specs.Rows.{Row}
use Rattle.machine.specs.Live.{Live, idle, arrive_all, owed_all}
use Rattle.machine.specs.Machine.{before_by, serve, serve_by, tick_by, sync_by, sync}
use Rattle.machine.specs.Schedules.{beats, ran-none, ran-here, ran-later, to-handlers, to-tasks, Timely, start, onward}

-- A row c/p, and the same at work with d for next arrival and deadline and w still owed.
abbrev row : ℕ → ℕ → Row
row c p = record { cost = c; period = p; deadline = p }

abbrev live : ℕ → ℕ → ℕ → ℕ → Live
live c p d w = record { row = row c p; next = d; due = d; owed = w }

-- ---- another handler first: case 7, task 2/4 and handlers 1/4 and 1/4. Ours serves handler 0, this one handler 1.

abbrev tasks-7 : List Row
tasks-7 = row 2 4 ∷ []

abbrev handlers-7 : List Row
handlers-7 = row 1 4 ∷ row 1 4 ∷ []

pub other-handler : Timely tasks-7 handlers-7 1 (live 2 4 4 2 ∷ []) (live 1 4 4 1 ∷ live 1 4 4 0 ∷ [])
unfolding idle arrive_all beats
other-handler = onward start (to-handlers (ran-later (ran-here 0 refl))) (λ e. absurd (omega arith), tt)

ours-7 : (sync 1 tasks-7 handlers-7).handlers ≡ live 1 4 4 0 ∷ live 1 4 4 1 ∷ []
unfolding sync_by tick_by beats idle arrive_all owed_all before_by serve serve_by
ours-7 = refl

-- It goes on as ours: handler 0, then the task to its end.
pub to_the_end : Timely tasks-7 handlers-7 4 (live 2 4 4 0 ∷ []) (live 1 4 4 0 ∷ live 1 4 4 0 ∷ [])
unfolding idle arrive_all beats owed_all
to_the_end =
    onward
    (onward
    (onward other-handler (to-handlers (ran-here 0 refl)) (λ e. absurd (omega arith), tt))
    (to-tasks refl (ran-here 1 refl))
    (λ e. absurd (omega arith), tt))
    (to-tasks refl (ran-here 0 refl))
    (λ e. refl, tt)

-- ---- a wasted tick: case 6, task 1/3 and handler 2/10. Nobody runs at tick 0, though both are owed work.

pub wasted : Timely (row 1 3 ∷ []) (row 2 10 ∷ []) 1 (live 1 3 3 1 ∷ []) (live 2 10 10 2 ∷ [])
unfolding idle arrive_all beats
wasted = onward start (to-handlers ran-none) (λ e. absurd (omega arith), tt)

-- And one that a task could have had, where no handler is owed work: task 1/3 alone.
pub wasted-task : Timely (row 1 3 ∷ []) [] 1 (live 1 3 3 1 ∷ []) []
unfolding idle arrive_all beats owed_all
wasted-task = onward start (to-tasks refl ran-none) (λ e. absurd (omega arith), tt)

-- ---- a later deadline first: tasks 1/4 and 1/8. Ours runs task 0, this one task 1.

pub later-deadline : Timely (row 1 4 ∷ row 1 8 ∷ []) [] 1 (live 1 4 4 1 ∷ live 1 8 8 0 ∷ []) []
unfolding idle arrive_all beats owed_all
later-deadline = onward start (to-tasks refl (ran-later (ran-here 0 refl))) (λ e. absurd (omega arith), (λ e. absurd (omega arith), tt))

ours-4 : (sync 1 (row 1 4 ∷ row 1 8 ∷ []) []).tasks ≡ live 1 4 4 0 ∷ live 1 8 8 1 ∷ []
unfolding sync_by tick_by beats idle arrive_all owed_all before_by serve serve_by
ours-4 = refl
