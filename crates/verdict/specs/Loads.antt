-- W, E, what short deadlines add, and the load (01, "The verdict"; 02, M-100 and M-101).
--   work m rs     == the sum of cost times (m / period) over rs
--   whole ts hs   == W, the work of all rows over H ticks
--   costs hs      == E, the sum of handler costs
--   slack m ts    == the sum of cost, m / period and (period - deadline) multiplied, over ts
--   load ts hs    == 1,000,000 times W / H, rounded up
--   work_most      == the most work for each tick: 1,000,000 of each of two full lists of 64 rows
use Rattle.std.specs.Prelude.{List, ℕ, ◌+◌, ◌-◌, ◌*◌, ◌/◌}
use Rattle.demand.specs.Demands.{ceil}
use Rattle.demand.specs.Rows.{Row, total}
use Rattle.verdict.specs.Multiples.{common}

-- what one row brings in m ticks, for whole periods
abbrev pub work_by : ℕ → Row → ℕ
work_by m r = r.cost * (m / r.period)

unfoldable pub work : ℕ → List Row → ℕ
work m rs = total (work_by m) rs

unfoldable pub whole : List Row → List Row → ℕ
whole ts hs = work (common ts hs) ts + work (common ts hs) hs

unfoldable pub costs : List Row → ℕ
costs hs = total (λ r. r.cost) hs

-- what one task's short deadline adds: nothing where it is the period
abbrev pub slack_by : ℕ → Row → ℕ
slack_by m r = r.cost * (m / r.period) * (r.period - r.deadline)

unfoldable pub slack : ℕ → List Row → ℕ
slack m ts = total (slack_by m) ts

-- w / h in millionths, rounded up: a load never looks lighter than it is
unfoldable pub millionths : ℕ → ℕ → ℕ
millionths w h = ceil (1000000 * w) h

abbrev pub work_most : ℕ
work_most = 128000000

unfoldable pub load : List Row → List Row → ℕ
load ts hs = millionths (whole ts hs) (common ts hs)
