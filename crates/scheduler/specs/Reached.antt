-- Every run that steps reach from a fresh one is in bounds (01, "One tick of the scheduler"): refusal 6 is only for
-- runs made elsewhere. Said for any key, of which the deadline is one.
--   offered_by key offers r   == the run after a list of offers, each accepted or refused; offered, with the deadline as key
--   FreshInBounds            a fresh run is in bounds
--   StepInBounds             a step of a run in bounds hands back a run in bounds, accepted or refused
--   AlwaysInBounds           so every run reached from a fresh one is in bounds
use Rattle.std.specs.Prelude.{List, [], ◌∷◌, ◌≡◌, ℕ, Ok}
use Rattle.scheduler.specs.Bounds.{InBounds}
use Rattle.machine.specs.Live.{Live, due_of}
use Rattle.scheduler.specs.Runs.{Shaped}
use Rattle.scheduler.specs.Start.{fresh_of}
use Rattle.scheduler.specs.Steps.{step_by}
use Rattle.scheduler.specs.declared.Run.{Run}

unfoldable pub offered_by : (Live → ℕ) → List (List ℕ) → Run → Run
offered_by key [] r = r
offered_by key (ws ∷ offers) r = offered_by key offers (step_by key r ws).run

abbrev pub offered : List (List ℕ) → Run → Run
offered offers r = offered_by due_of offers r

-- In bounds, with arrays of their lengths.
pub record WellMade (r : Run) : Type 0 where
  pub in_bounds : InBounds r
  pub shaped : Shaped r

abbrev pub FreshInBounds : Type 0
FreshInBounds = (t h : List ℕ) → (fresh_of t h).answer ≡ Ok tt → WellMade (fresh_of t h).run

abbrev pub StepInBounds : Type 0
StepInBounds = (key : Live → ℕ) (r : Run) (ws : List ℕ) → WellMade r → WellMade (step_by key r ws).run

abbrev pub AlwaysInBounds : Type 0
AlwaysInBounds =
    (key : Live → ℕ) (t h : List ℕ) → (fresh_of t h).answer ≡ Ok tt
    → (offers : List (List ℕ)) → WellMade (offered_by key offers (fresh_of t h).run)
