-- The rows of a table as events. D is the work of the deadlines d, d + p, .., A that of the arrivals, which count from ticks 1, 1 + p, ..
-- (01, "The two demands"); the same of tasks' arrivals is what 02, M-105, adds up.
--   first_of event d      == the tick of a row's first event, where its deadline is d
--   work_of event rs x    == the work of the events of rows rs up to tick x; work_by is that of one row
--   Placeable rs n       rows in range, for which n places are enough
--   Begun event rs q     q holds the events of rows rs, all of them to come
use Rattle.std.specs.Prelude.{List, ◌≡◌, ℕ, ◌*◌, ◌≤◌, length}
use Rattle.walk.specs.Queue.{events, to_come, Ahead, Queue}
use Rattle.walk.specs.declared.Entry.{Entry}
use Rattle.demand.specs.Limits.{tasks_most}
use Rattle.demand.specs.Refusals.{FairRow}
use Rattle.demand.specs.Rows.{Row, total, Each, Valid}
use Rattle.demand.specs.declared.events.Event.{Event}
use Rattle.demand.specs.declared.events.Event.TheVariants.{Arrival, Deadline}

abbrev pub first_of : Event → ℕ → ℕ
first_of Arrival d = 1
first_of Deadline d = d

abbrev pub work_by : Event → ℕ → Row → ℕ
work_by event x r = r.cost * events x (first_of event r.deadline) r.period

unfoldable pub work_of : Event → List Row → ℕ → ℕ
work_of event rs x = total (work_by event x) rs

pub record Placeable (rs : List Row) (n : ℕ) : Type 0 where
  pub rows : Each FairRow rs
  pub deadlines : Valid rs
  pub count : length rs ≤ tasks_most
  pub room : length rs ≤ n

pub record Begun (event : Event) (rs : List Row) (q : List Entry) : Type 0 where
  pub queue : Queue q
  pub ahead : Ahead 0 q
  pub work : (x : ℕ) → to_come q x ≡ work_of event rs x
  pub some : 1 ≤ length rs → 1 ≤ length q
