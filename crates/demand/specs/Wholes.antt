-- f over whole periods of the handlers (02, M-102), as statements.
--   own_period hs     == the least common multiple of the handlers' own periods
--   TakesAll hs      handlers that are called for as much within that period as it has ticks, or more, take every tick
--   CountsWholes hs  else f of any length is what they are called for in its whole periods, and f of the rest
use Rattle.std.specs.Prelude.{List, ◌≡◌, ℕ, ◌+◌, ◌*◌, ◌/◌, ◌%◌, ◌≤◌}
use Rattle.demand.specs.Demands.{called, handled}
use Rattle.demand.specs.Multiples.{lcm_from}
use Rattle.demand.specs.Rows.{Row}

abbrev pub own_period : List Row → ℕ
own_period hs = lcm_from 1 hs

abbrev pub TakesAll : List Row → Type 0
TakesAll hs = own_period hs ≤ called hs (own_period hs) → (l : ℕ) → handled hs l ≡ l

abbrev pub CountsWholes : List Row → Type 0
CountsWholes hs =
    called hs (own_period hs) ≤ own_period hs
    → (l : ℕ) → handled hs l ≡ l / own_period hs * called hs (own_period hs) + handled hs (l % own_period hs)
