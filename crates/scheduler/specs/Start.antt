-- What `fresh` answers (01, "One tick of the scheduler"): a fresh run is made from a table, with refusals 1 to 3 and 13 only (02, M-101).
--   padded n xs     == xs, and zeros behind it to n numbers
--   zeros n         == n zeros: a next arrival, a deadline or work owed for each place
--   fresh_run t h    == the fresh run of a table: clock 0, all arrivals, deadlines and work 0, not over
--   no_run           == a run of zeros, beside a refusal
--   fresh_of t h     == the answer
use Rattle.std.specs.Prelude.{false, List, None, Ok, Err, ◌++◌, ℕ, ◌-◌, eqb, length, replicate}
use Rattle.demand.specs.Limits.{tasks_most}
use Rattle.demand.specs.Numbered.{refusal_at}
use Rattle.demand.specs.Refusals.{table_refusal}
use Rattle.demand.specs.Rows.{tasks_of, handlers_of}
use Rattle.demand.specs.Tests.{pick}
use Rattle.scheduler.specs.Runs.{run_of, task_numbers, handler_numbers, row_places}
use Rattle.scheduler.specs.declared.Fresh.{Fresh}
use Rattle.scheduler.specs.declared.Run.{Run}

unfoldable pub padded : ℕ → List ℕ → List ℕ
padded n xs = xs ++ replicate (n - length xs) 0

unfoldable pub zeros : ℕ → List ℕ
zeros n = replicate n 0

unfoldable pub fresh_run : List ℕ → List ℕ → Run
fresh_run t h =
    run_of (padded task_numbers t) (padded handler_numbers h) (length (tasks_of t)) (length (handlers_of h))
    0 (zeros row_places) (zeros tasks_most) (zeros row_places) false None

unfoldable pub no_run : Run
no_run = run_of (zeros task_numbers) (zeros handler_numbers) 0 0 0 (zeros row_places) (zeros tasks_most) (zeros row_places) false None

unfoldable pub fresh_of : List ℕ → List ℕ → Fresh
fresh_of t h =
    pick (eqb (table_refusal t h) 0)
    (record { run = fresh_run t h; answer = Ok tt })
    (record { run = no_run; answer = Err (refusal_at (table_refusal t h)) })
