-- H, the least common multiple of all periods, handlers' too (01, "Tables and figures").
--   common ts hs            == H of a table
--   LeastMultiple ts hs m   m is the least common multiple of all periods
--   CommonLeast             H is, where every period is at least 1
use Rattle.std.specs.Prelude.{List, ℕ, ◌≤◌, ◌<◌}
use Rattle.demand.specs.Multiples.{lcm_from, Divided}
use Rattle.demand.specs.Rows.{Row, Positive}

unfoldable pub common : List Row → List Row → ℕ
common ts hs = lcm_from (lcm_from 1 ts) hs

pub record LeastMultiple (ts hs : List Row) (m : ℕ) : Type 0 where
  pub positive : 0 < m
  pub tasks : Divided m ts
  pub handlers : Divided m hs
  pub least : (n : ℕ) → 0 < n → Divided n ts → Divided n hs → m ≤ n

abbrev pub CommonLeast : Type 0
CommonLeast = (ts hs : List Row) → Positive ts → Positive hs → LeastMultiple ts hs (common ts hs)
