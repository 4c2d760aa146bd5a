-- Schedules, and what they give to each row of a table (02, M-110): all rows arrive at 0 and each period, at full cost.
--   Who                  == to whom a tick goes: nobody, the task at i, the handler at j
--   same i j             == 1 where i and j are the same, else 0
--   to_task w i           == the ticks of one tick that goes to w that the task at i gets: 1 or 0; to_handler of the handler at i
--   task_ticks σ i t      == the ticks that the schedule σ, which says for each tick to whom it goes, gives to the task at i before tick t
--   handler_ticks σ j t   == that of the handler at j
--   work_by r n           == the work that row r is called for by its arrivals before tick n
use Rattle.std.specs.Prelude.{ℕ, zero, suc, ◌+◌, ◌-◌, ◌*◌}
use Rattle.demand.specs.Demands.{ceil}
use Rattle.demand.specs.Rows.{Row}

pub data Who : Type 0 where
  nobody : Who
  task : ℕ → Who
  handler : ℕ → Who

abbrev pub same : ℕ → ℕ → ℕ
same i j = 1 - ((i - j) + (j - i))

abbrev pub to_task : Who → ℕ → ℕ
to_task nobody i = 0
to_task (task j) i = same j i
to_task (handler j) i = 0

abbrev pub to_handler : Who → ℕ → ℕ
to_handler nobody i = 0
to_handler (task j) i = 0
to_handler (handler j) i = same j i

unfoldable pub task_ticks : (ℕ → Who) → ℕ → ℕ → ℕ
task_ticks σ i zero = 0
task_ticks σ i (suc t) = task_ticks σ i t + to_task (σ t) i

unfoldable pub handler_ticks : (ℕ → Who) → ℕ → ℕ → ℕ
handler_ticks σ i zero = 0
handler_ticks σ i (suc t) = handler_ticks σ i t + to_handler (σ t) i

-- Its cost at 0 and at each period. A row that is not in the table has none.
abbrev pub work_by : Row → ℕ → ℕ
work_by r n = r.cost * ceil n r.period
