-- The tick rule said of a step's answer, as statements.
--   TickRule        who runs in an accepted step is the one that 01's rule names, of the work owed after the arrivals
--   OnlyOne         the rule names no other
use Rattle.std.specs.Prelude.{List, ◌≡◌, ℕ, Ok}
use Rattle.machine.specs.Live.{Live}
use Rattle.scheduler.specs.Steps.{step_by}
use Rattle.scheduler.specs.Tick.{GoesTo, owed_with, key_in}
use Rattle.scheduler.specs.declared.Ran.{Ran}
use Rattle.scheduler.specs.declared.Run.{Run}
use Rattle.scheduler.specs.declared.Ticked.{Ticked}

abbrev pub TickRule : Type 0
TickRule =
    (key : Live → ℕ) (r : Run) (ws : List ℕ) (t : Ticked) → (step_by key r ws).answer ≡ Ok t
    → GoesTo (key_in key r ws) (owed_with r ws) r.task_count r.handler_count t.ran

abbrev pub OnlyOne : Type 0
OnlyOne = (key : ℕ → ℕ) (owed : List ℕ) (n m : ℕ) (a b : Ran) → GoesTo key owed n m a → GoesTo key owed n m b → a ≡ b
