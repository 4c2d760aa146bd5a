-- The synchronous run: every row at tick 0 and each period after, with its full cost (00, demand 3; 01, case 13).
--   beat_of t h n           == the synchronous arrivals at tick n: each row's cost where its period divides n, else 0; tasks, then handlers
--   sync_run_by key t h n    == the fresh run of a table after those of the first n ticks, by any key
--   sync_run t h n          == that, with the deadline as key
--   SyncLegal              they are a legal pattern, of every table
use Rattle.std.specs.Prelude.{List, ◌++◌, ℕ}
use Rattle.demand.specs.Rows.{tasks_of, handlers_of}
use Rattle.machine.specs.Live.{Live, due_of}
use Rattle.machine.specs.Schedules.{beats}
use Rattle.scheduler.specs.declared.Run.{Run}
use Rattle.guarantees.specs.Patterns.{run_by, LegalPattern}

unfoldable pub beat_of : List ℕ → List ℕ → ℕ → List ℕ
beat_of t h n = beats n (tasks_of t) ++ beats n (handlers_of h)

abbrev pub sync_run_by : (Live → ℕ) → List ℕ → List ℕ → ℕ → Run
sync_run_by key t h n = run_by key t h (beat_of t h) n

abbrev pub sync_run : List ℕ → List ℕ → ℕ → Run
sync_run t h n = sync_run_by due_of t h n

abbrev pub SyncLegal : Type 0
SyncLegal = (t h : List ℕ) → LegalPattern t h (beat_of t h)
