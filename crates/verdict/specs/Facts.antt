-- The facts that end the search (01, "The verdict"; 02, M-101), as statements. H and W are a readable table's own.
--   OverfullFails ts hs   if W is above H, some L up to H fails
--   PeriodEnds ts hs      if W is at most H and no L up to H fails, none fails at all
--   ShortOnly ts hs       if W is below H, every failing L has L times (H - W) below the bound
--   bound ts hs           == E times H, and what short deadlines add over H
--   FailsBy ts hs end, PassesTo ts hs end   some length from 1 to end fails, each passes
use Rattle.std.specs.Prelude.{List, ℕ, ◌+◌, ◌-◌, ◌*◌, ◌≤◌, ◌<◌}
use Rattle.demand.specs.Demands.{Passes, Fails}
use Rattle.demand.specs.Rows.{Row}
use Rattle.verdict.specs.Loads.{whole, costs, slack}
use Rattle.verdict.specs.Multiples.{common}
use Rattle.verdict.specs.Lengths.{AlwaysPasses}

pub record FailsBy (ts hs : List Row) (end : ℕ) : Type 0 where
  pub interval : ℕ
  pub positive : 1 ≤ interval
  pub within : interval ≤ end
  pub fails : Fails ts hs interval

abbrev pub PassesTo : List Row → List Row → ℕ → Type 0
PassesTo ts hs end = (l : ℕ) → 1 ≤ l → l ≤ end → Passes ts hs l

abbrev pub OverfullFails : List Row → List Row → Type 0
OverfullFails ts hs = common ts hs < whole ts hs → FailsBy ts hs (common ts hs)

abbrev pub PeriodEnds : List Row → List Row → Type 0
PeriodEnds ts hs = whole ts hs ≤ common ts hs → PassesTo ts hs (common ts hs) → AlwaysPasses ts hs

unfoldable pub bound : List Row → List Row → ℕ
bound ts hs = costs hs * common ts hs + slack (common ts hs) ts

abbrev pub ShortOnly : List Row → List Row → Type 0
ShortOnly ts hs = whole ts hs < common ts hs → (l : ℕ) → Fails ts hs l → l * (common ts hs - whole ts hs) < bound ts hs
