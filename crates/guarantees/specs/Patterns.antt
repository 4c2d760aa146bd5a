-- Patterns of arrivals (00, demand 3): for each tick a list of numbers, tasks then handlers, 0 for no arrival.
--   rows_in t h                 == the rows of a table by place: tasks, then handlers
--   pattern_to arrivals n       == the lists of the first n ticks
--   run_by key t h arrivals n   == the fresh run of a table after them, where of the tasks owed work the one with the smallest key runs
--   LegalPattern t h arrivals  at every tick one number a row, none above its cost, and arrivals of a row at least its period apart
use Rattle.std.specs.Prelude.{List, [], ◌∷◌, ◌++◌, ◌≡◌, ℕ, zero, suc, ◌+◌, ◌≤◌, ◌<◌, length, get_or}
use Rattle.demand.specs.Rows.{Row, tasks_of, handlers_of, row_at}
use Rattle.machine.specs.Live.{Live}
use Rattle.scheduler.specs.Reached.{offered_by}
use Rattle.scheduler.specs.Start.{fresh_of}
use Rattle.scheduler.specs.declared.Run.{Run}

abbrev pub rows_in : List ℕ → List ℕ → List Row
rows_in t h = tasks_of t ++ handlers_of h

unfoldable pub pattern_to : (ℕ → List ℕ) → ℕ → List (List ℕ)
pattern_to arrivals zero = []
pattern_to arrivals (suc n) = pattern_to arrivals n ++ (arrivals n ∷ [])

abbrev pub run_by : (Live → ℕ) → List ℕ → List ℕ → (ℕ → List ℕ) → ℕ → Run
run_by key t h arrivals n = offered_by key (pattern_to arrivals n) (fresh_of t h).run

-- Row k may bring work at ticks m and n only if they are its period apart.
pub record LegalPattern (t h : List ℕ) (arrivals : ℕ → List ℕ) : Type 0 where
  pub count : (n : ℕ) → length (arrivals n) ≡ length (rows_in t h)
  pub in-cost : (n k : ℕ) → k < length (rows_in t h) → get_or (arrivals n) k 0 ≤ (row_at (rows_in t h) k).cost
  pub apart : (m n k : ℕ) → k < length (rows_in t h) → m < n → 0 < get_or (arrivals m) k 0 → 0 < get_or (arrivals n) k 0
      → m + (row_at (rows_in t h) k).period ≤ n
