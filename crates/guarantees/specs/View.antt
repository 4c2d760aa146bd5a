-- A run seen as a state of the machine, and a list of arrivals as the machine's.
--   part a n xs                == the n numbers of xs from place a on
--   of_tasks, of_handlers        == of numbers by place, those of the tasks of run r and those of its handlers
--   seen r clock next due owed == the state of the rows of run r at this clock, with these next arrivals, deadlines and this work owed
--   view_of r                   == the state of run r
--   offer_of r ws               == the arrivals ws, of tasks and of handlers
use Rattle.std.specs.Prelude.{List, ℕ, take, drop}
use Rattle.machine.specs.Machine.{State, Arrivals}
use Rattle.machine.specs.Places.{live_of}
use Rattle.scheduler.specs.Runs.{task_rows, handler_rows}
use Rattle.scheduler.specs.declared.Run.{Run}

unfoldable pub part : ℕ → ℕ → List ℕ → List ℕ
part a n xs = take n (drop a xs)

abbrev pub of_tasks : Run → List ℕ → List ℕ
of_tasks r xs = part 0 r.task_count xs

abbrev pub of_handlers : Run → List ℕ → List ℕ
of_handlers r xs = part r.task_count r.handler_count xs

-- A handler has its period to run, so that its deadline is its next arrival.
abbrev pub seen : Run → ℕ → List ℕ → List ℕ → List ℕ → State
seen r clock next due owed = record {
  clock = clock;
  tasks = live_of (task_rows r) (of_tasks r next) (of_tasks r due) (of_tasks r owed);
  handlers = live_of (handler_rows r) (of_handlers r next) (of_handlers r next) (of_handlers r owed);
}

abbrev pub view_of : Run → State
view_of r = seen r r.clock r.next r.due r.owed

abbrev pub offer_of : Run → List ℕ → Arrivals
offer_of r ws = record { to_tasks = of_tasks r ws; to_handlers = of_handlers r ws }
