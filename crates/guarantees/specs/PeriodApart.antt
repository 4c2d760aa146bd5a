-- Arrivals of a row are a period apart (00, demand 3).
--   PeriodApart            two accepted arrivals of a row are at least its period apart, whatever is offered between them, by any key
use Rattle.std.specs.Prelude.{List, ℕ, ◌+◌, ◌≤◌, ◌<◌, get_or}
use Rattle.machine.specs.Live.{Live}
use Rattle.scheduler.specs.Reached.{offered_by, WellMade}
use Rattle.scheduler.specs.Runs.{row_in, row_count}
use Rattle.scheduler.specs.Steps.{step_by}
use Rattle.scheduler.specs.declared.Run.{Run}
use Rattle.guarantees.specs.LegalArrivals.{Accepted}

abbrev pub PeriodApart : Type 0
PeriodApart =
    (key : Live → ℕ) (r : Run) (ws ws' : List ℕ) (offers : List (List ℕ)) (k : ℕ) → WellMade r → k < row_count r
    → Accepted r ws → 0 < get_or ws k 0
    → Accepted (offered_by key offers (step_by key r ws).run) ws' → 0 < get_or ws' k 0
    → r.clock + (row_in r k).period ≤ (offered_by key offers (step_by key r ws).run).clock
