-- Two other ways of charging one processor's handlers (02, M-113; documents 000 and 001): each grows the costs of tasks, and handlers are
-- then removed.
--   bound l r             == document 001, formula 2: what bounds one handler in l ticks, apart from the others
--   bounds hs l           == the sum of it over handlers
--   useful q hs           == what that leaves of a quantum of q ticks, 0 where it leaves nothing
--   quantum_cost q hs r    == a task's cost in whole quanta: as many as its cost has useful parts, rounded up
--   task_cost hs r         == a task's cost and what handlers take of its period
--   grown g ts            == the tasks ts, each with the cost that g gives, its period and its deadline kept
--   load_by g ts           == their load without handlers
use Rattle.std.specs.Prelude.{List, [], ◌∷◌, ℕ, ◌+◌, ◌-◌, ◌*◌, ◌/◌, ◌%◌, min}
use Rattle.demand.specs.Demands.{ceil}
use Rattle.demand.specs.Rows.{Row, total}
use Rattle.verdict.specs.Loads.{load}

abbrev pub bound : ℕ → Row → ℕ
bound l r = r.cost * (l / r.period) + min r.cost (l % r.period)

unfoldable pub bounds : List Row → ℕ → ℕ
bounds hs l = total (bound l) hs

abbrev pub useful : ℕ → List Row → ℕ
useful q hs = q - bounds hs q

abbrev pub quantum_cost : ℕ → List Row → Row → ℕ
quantum_cost q hs r = q * ceil r.cost (useful q hs)

abbrev pub task_cost : List Row → Row → ℕ
task_cost hs r = r.cost + bounds hs r.period

unfoldable pub grown : (Row → ℕ) → List Row → List Row
grown g [] = []
grown g (r ∷ rs) = record { cost = g r; period = r.period; deadline = r.deadline } ∷ grown g rs

unfoldable pub load_by : (Row → ℕ) → List Row → ℕ
load_by g ts = load (grown g ts) []
