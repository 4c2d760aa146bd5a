-- What `step` answers (01, "One tick of the scheduler" and "Numbered refusals").
--   step_tests r ws       == the tests of a step, each with its number: 6 to 11
--   step_refusal r ws     == the lowest refusal of 6 to 11 that applies to a step of run r with arrivals ws, 0 for none
--   refused r k          == the answer of the refusal whose number is k: it, and the run that was given
--   step_by key r ws      == the answer, where of the tasks owed work the one with the smallest key runs
--   step_of r ws          == the answer, where the earliest deadline runs
use Rattle.std.specs.Prelude.{Bool, not, ◌&&◌, List, [], ◌∷◌, ℕ, Err, ltb, eqb, length, get_or}
use Rattle.demand.specs.Limits.{ticks_most}
use Rattle.demand.specs.Numbered.{refusal_at}
use Rattle.demand.specs.Rows.{Row}
use Rattle.demand.specs.Tests.{pick, first_refusal}
use Rattle.scheduler.specs.Bounds.{out_of_bounds}
use Rattle.machine.specs.Live.{Live, due_of}
use Rattle.scheduler.specs.Runs.{row_in, row_count}
use Rattle.scheduler.specs.Scans.{any}
use Rattle.scheduler.specs.Tick.{ticked_by}
use Rattle.scheduler.specs.declared.Run.{Run}
use Rattle.scheduler.specs.declared.Stepped.{Stepped}

-- 10: an arrival comes before the row's next legal tick
abbrev pub early : ℕ → List ℕ → List ℕ → ℕ → Bool
early clock next ws k = not (eqb (get_or ws k 0) 0) && ltb clock (get_or next k 0)

-- 11: an arrival brings more than the row's cost
abbrev pub heavy : (ℕ → Row) → List ℕ → ℕ → Bool
heavy row ws k = ltb (row k).cost (get_or ws k 0)

-- 6: the run is out of bounds; 7: the run is over; 8: the clock is 1,000,000,000; 9: the list has the wrong count of numbers
unfoldable pub step_tests : Run → List ℕ → List (ℕ × Bool)
step_tests r ws =
    (6, out_of_bounds r)
    ∷ (7, r.over)
    ∷ (8, eqb r.clock ticks_most)
    ∷ (9, not (eqb (length ws) (row_count r)))
    ∷ (10, any (early r.clock r.next ws) (row_count r))
    ∷ (11, any (heavy (row_in r) ws) (row_count r))
    ∷ []

unfoldable pub step_refusal : Run → List ℕ → ℕ
step_refusal r ws = first_refusal (step_tests r ws)

abbrev pub refused : Run → ℕ → Stepped
refused r k = record { run = r; answer = Err (refusal_at k) }

unfoldable pub step_by : (Live → ℕ) → Run → List ℕ → Stepped
step_by key r ws = pick (eqb (step_refusal r ws) 0) (ticked_by key r ws) (refused r (step_refusal r ws))

abbrev pub step_of : Run → List ℕ → Stepped
step_of r ws = step_by due_of r ws
