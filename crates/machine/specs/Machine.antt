-- Our own machine: its state, its arrivals, one tick of it and its synchronous run (01, "One tick of the scheduler"; case 13).
-- Handlers first, then the task with the smallest key, in 01 the deadline.
--   State, Arrivals        == clock and rows at work; what one tick brings, a number for each row, 0 for no arrival
--   fresh_state ts hs       == the state of a fresh run: clock 0, all rows idle
--   share k o              == o, or nothing where k is 0
--   before n xs            == work owed with a deadline before n; before_by key by any other number of a row
--   serve xs               == the first row that is owed work has run for a tick
--   serve_by key xs         == the row with the smallest key of those owed work, the lowest of several, has run for a tick
--   edf xs                 == the one with the earliest deadline
--   tick_by choose a s      == the state after one tick with arrivals a: handlers first, then the task that is chosen
--   tick a s               == that tick with the earliest deadline chosen
--   beats_at t ts hs        == the synchronous arrivals of a table at tick t
--   sync_by choose n ts hs  == the state to which the machine brings the fresh table in n ticks
--   sync n ts hs           == that, with the earliest deadline chosen
use Rattle.std.specs.Prelude.{List, [], ◌∷◌, ℕ, zero, suc, ◌+◌, ◌-◌}
use Rattle.demand.specs.Rows.{Row}
use Rattle.machine.specs.Live.{Live, due_of, idle, arrive_all, owed_all, left}
use Rattle.machine.specs.Schedules.{beats}

pub record State : Type 0 where
  pub clock : ℕ
  pub tasks : List Live
  pub handlers : List Live

pub record Arrivals : Type 0 where
  pub to_tasks : List ℕ
  pub to_handlers : List ℕ

abbrev pub fresh_state : List Row → List Row → State
fresh_state ts hs = record { clock = 0; tasks = idle ts; handlers = idle hs }

-- ---- work owed before a tick

abbrev pub share : ℕ → ℕ → ℕ
share zero o = 0
share (suc k) o = o

unfoldable pub before_by : (Live → ℕ) → ℕ → List Live → ℕ
before_by key n [] = 0
before_by key n (x ∷ xs) = share (n - key x) x.owed + before_by key n xs

abbrev pub before : ℕ → List Live → ℕ
before n xs = before_by due_of n xs

-- ---- who gets the tick

-- x is owed o: it runs, or ys is what a tick makes of the rows xs behind it.
abbrev pub runs_or : ℕ → Live → List Live → List Live → List Live
runs_or zero x xs ys = x ∷ ys
runs_or (suc n) x xs ys = left n x ∷ xs

unfoldable pub serve : List Live → List Live
serve [] = []
serve (x ∷ xs) = runs_or x.owed x xs (serve xs)

-- x is owed o, and the rows xs behind it are owed b with a smaller key: it runs where o is not 0 and b is.
abbrev pub chosen : ℕ → ℕ → Live → List Live → List Live → List Live
chosen zero b x xs ys = x ∷ ys
chosen (suc n) zero x xs ys = left n x ∷ xs
chosen (suc n) (suc b) x xs ys = x ∷ ys

unfoldable pub serve_by : (Live → ℕ) → List Live → List Live
serve_by key [] = []
serve_by key (x ∷ xs) = chosen x.owed (before_by key (key x) xs) x xs (serve_by key xs)

abbrev pub edf : List Live → List Live
edf xs = serve_by due_of xs

-- ---- the tick

-- After the arrivals, where handlers are owed o in all: to them, or where that is 0 to tasks.
abbrev pub given_by : (List Live → List Live) → ℕ → ℕ → List Live → List Live → State
given_by choose zero t ts hs = record { clock = suc t; tasks = choose ts; handlers = hs }
given_by choose (suc o) t ts hs = record { clock = suc t; tasks = ts; handlers = serve hs }

unfoldable pub tick_by : (List Live → List Live) → Arrivals → State → State
tick_by choose a s =
    let ts = arrive_all s.clock a.to_tasks s.tasks in
    let hs = arrive_all s.clock a.to_handlers s.handlers in
    given_by choose (owed_all hs) s.clock ts hs

abbrev pub tick : Arrivals → State → State
tick a s = tick_by edf a s

-- ---- the synchronous run

abbrev pub beats_at : ℕ → List Row → List Row → Arrivals
beats_at t ts hs = record { to_tasks = beats t ts; to_handlers = beats t hs }

unfoldable pub sync_by : (List Live → List Live) → ℕ → List Row → List Row → State
sync_by choose zero ts hs = fresh_state ts hs
sync_by choose (suc n) ts hs = tick_by choose (beats_at n ts hs) (sync_by choose n ts hs)

abbrev pub sync : ℕ → List Row → List Row → State
sync n ts hs = sync_by (serve_by due_of) n ts hs
