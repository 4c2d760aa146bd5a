-- The keys by which the code chooses tasks.
--   key_of key          == the key of a row at work: its deadline (01) or its period (02, M-103)
--   periods_of t n      == the periods of the first n tasks of the numbers t, and zeros behind
--   keys_on key t due k == the key of the task at place k, of tasks with the numbers t and the deadlines due
use Rattle.std.specs.Prelude.{List, ℕ, replicate}
use Rattle.demand.specs.Limits.{tasks_most}
use Rattle.demand.specs.Rows.{row_at, tasks_of}
use Rattle.machine.specs.Live.{Live, due_of, period_of}
use Rattle.scheduler.specs.Scans.{at, filled}
use Rattle.scheduler.specs.declared.tick.Key.{Key}
use Rattle.scheduler.specs.declared.tick.Key.TheVariants.{Deadline, Period}

abbrev pub key_of : Key → Live → ℕ
key_of Deadline x = due_of x
key_of Period x = period_of x

unfoldable pub periods_of : List ℕ → ℕ → List ℕ
periods_of t n = filled (λ k. (row_at (tasks_of t) k).period) n (replicate tasks_most 0)

abbrev pub keys_on : Key → List ℕ → List ℕ → ℕ → ℕ
keys_on Deadline t due k = at due k
keys_on Period t due k = (row_at (tasks_of t) k).period
