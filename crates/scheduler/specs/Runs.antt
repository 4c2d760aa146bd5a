-- A run by place (01, "One tick of the scheduler"). Handlers stand behind tasks: the place of task i is i, that of handler i is
-- task_count + i.
--   run_of ..            == the run of these fields
--   row_on t h n k       == the row at place k, of n tasks with the numbers t and handlers with the numbers h
--   row_in r k           == the row at place k of run r
--   row_count r          == how many rows it has
--   task_rows r, handler_rows r == the rows of its table
--   task_numbers, handler_numbers, row_places == the lengths of its arrays
--   Shaped r            its arrays have their lengths, as those of every run that a program holds
use Rattle.std.specs.Prelude.{Bool, List, Option, ◌≡◌, ℕ, ◌+◌, ◌-◌, ◌*◌, ltb, length, take}
use Rattle.demand.specs.Limits.{tasks_most, handlers_most}
use Rattle.demand.specs.Rows.{Row, tasks_of, handlers_of, row_at}
use Rattle.demand.specs.Tests.{pick}
use Rattle.scheduler.specs.declared.Run.{Run}

abbrev pub run_of : List ℕ → List ℕ → ℕ → ℕ → ℕ → List ℕ → List ℕ → List ℕ → Bool → Option ℕ → Run
run_of t h n m clock next due owed over late = record {
  tasks = t;
  handlers = h;
  task_count = n;
  handler_count = m;
  clock = clock;
  next = next;
  due = due;
  owed = owed;
  over = over;
  late = late;
}

abbrev pub row_on : List ℕ → List ℕ → ℕ → ℕ → Row
row_on t h n k = pick (ltb k n) (row_at (tasks_of t) k) (row_at (handlers_of h) (k - n))

abbrev pub row_in : Run → ℕ → Row
row_in r k = row_on r.tasks r.handlers r.task_count k

abbrev pub row_count : Run → ℕ
row_count r = r.task_count + r.handler_count

-- Three numbers a task, two a handler.
unfoldable pub task_rows : Run → List Row
task_rows r = tasks_of (take (3 * r.task_count) r.tasks)

unfoldable pub handler_rows : Run → List Row
handler_rows r = handlers_of (take (2 * r.handler_count) r.handlers)

-- The sizes of its arrays: the numbers of the most tasks and of the most handlers, and a place for each row.
abbrev pub task_numbers : ℕ
task_numbers = 3 * tasks_most

abbrev pub handler_numbers : ℕ
handler_numbers = 2 * handlers_most

abbrev pub row_places : ℕ
row_places = tasks_most + handlers_most

pub record Shaped (r : Run) : Type 0 where
  pub tasks-long : length r.tasks ≡ task_numbers
  pub handlers-long : length r.handlers ≡ handler_numbers
  pub next-long : length r.next ≡ row_places
  pub due-long : length r.due ≡ tasks_most
  pub owed-long : length r.owed ≡ row_places
