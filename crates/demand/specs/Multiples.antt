-- Multiples of rows' periods (01, "Tables and figures").
--   lcm_from a rs   == the least common multiple of a and the periods of rs, row by row
--   limited m      == m, or none where it is above 1,000,000,000
--   Divided n rs   n is a multiple of every period of rs
use Rattle.std.specs.Prelude.{List, [], ◌∷◌, ℕ, Option, None, Some, ltb}
use Rattle.std.specs.Int.{◌∣◌}
use Rattle.euclid.specs.Euclid.{lcm}
use Rattle.demand.specs.Limits.{ticks_most}
use Rattle.demand.specs.Rows.{Row, Each}
use Rattle.demand.specs.Tests.{pick}

unfoldable pub lcm_from : ℕ → List Row → ℕ
lcm_from a [] = a
lcm_from a (r ∷ rs) = lcm_from (lcm a r.period) rs

abbrev pub limited : ℕ → Option ℕ
limited m = pick (ltb ticks_most m) None (Some m)

abbrev pub Divided : ℕ → List Row → Type 0
Divided n rs = Each (λ r. r.period ∣ n) rs
