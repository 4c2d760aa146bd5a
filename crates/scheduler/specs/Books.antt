-- The books balance (01, "One tick of the scheduler"): for a run from fresh, work brought by all accepted steps equals ticks that
-- were not idle plus work still owed.
--   sum xs                   == the sum of the numbers xs
--   brought_by key offers r   == the work that the accepted ones of these offers bring run r
--   busy_by key offers r      == the ticks of those steps that were not idle
--   owed_in r                 == the work that its rows are still owed
--   Balance                  the books balance, over every list of offers, refused ones among them
use Rattle.std.specs.Prelude.{List, [], ◌∷◌, ◌≡◌, ℕ, ◌+◌, Result, Ok, Err, take}
use Rattle.demand.specs.declared.refusal.Refusal.{Refusal}
use Rattle.machine.specs.Live.{Live}
use Rattle.scheduler.specs.Reached.{offered_by}
use Rattle.scheduler.specs.Runs.{row_count}
use Rattle.scheduler.specs.Start.{fresh_of}
use Rattle.scheduler.specs.Steps.{step_by}
use Rattle.scheduler.specs.declared.Ran.{Ran}
use Rattle.scheduler.specs.declared.Ran.TheVariants.{Handler, Task, Idle}
use Rattle.scheduler.specs.declared.Run.{Run}
use Rattle.scheduler.specs.declared.Ticked.{Ticked}

unfoldable pub sum : List ℕ → ℕ
sum [] = 0
sum (x ∷ xs) = x + sum xs

-- Work ws counts where the step is accepted.
abbrev pub bringing : Result Ticked Refusal → List ℕ → ℕ
bringing (Ok t) ws = sum ws
bringing (Err e) ws = 0

abbrev pub ticking : Ran → ℕ
ticking (Handler i) = 1
ticking (Task i) = 1
ticking Idle = 0

abbrev pub busy : Result Ticked Refusal → ℕ
busy (Ok t) = ticking t.ran
busy (Err e) = 0

unfoldable pub brought_by : (Live → ℕ) → List (List ℕ) → Run → ℕ
brought_by key [] r = 0
brought_by key (ws ∷ offers) r = bringing (step_by key r ws).answer ws + brought_by key offers (step_by key r ws).run

unfoldable pub busy_by : (Live → ℕ) → List (List ℕ) → Run → ℕ
busy_by key [] r = 0
busy_by key (ws ∷ offers) r = busy (step_by key r ws).answer + busy_by key offers (step_by key r ws).run

unfoldable pub owed_in : Run → ℕ
owed_in r = sum (take (row_count r) r.owed)

abbrev pub Balance : Type 0
Balance =
    (key : Live → ℕ) (t h : List ℕ) → (fresh_of t h).answer ≡ Ok tt → (offers : List (List ℕ))
    → brought_by key offers (fresh_of t h).run ≡ busy_by key offers (fresh_of t h).run + owed_in (offered_by key offers (fresh_of t h).run)
