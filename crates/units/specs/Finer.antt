-- A table in finer ticks (02, M-104): every cost, period and deadline multiplied by one whole number.
--   times k s    == the lent list s with every number times k
--   scaled k r   == the row r in ticks k times as fine
--   scale k rs   == each row of rs so
use Rattle.std.specs.Prelude.{List, [], ◌∷◌, ℕ, ◌*◌}
use Rattle.demand.specs.Rows.{Row}

unfoldable pub times : ℕ → List ℕ → List ℕ
times k [] = []
times k (n ∷ s) = (k * n) ∷ times k s

abbrev pub scaled : ℕ → Row → Row
scaled k r = record { cost = k * r.cost; period = k * r.period; deadline = k * r.deadline }

unfoldable pub scale : ℕ → List Row → List Row
scale k [] = []
scale k (r ∷ rs) = scaled k r ∷ scale k rs
