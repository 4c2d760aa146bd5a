-- Rows at work as a run holds them: for the rows of a table a list of next arrivals, one of deadlines and one of work owed, read by place.
--   at_place i xs         == the row at work at place i, no_live past the last
--   live_of rs ns ds os   == the rows rs at work, with next arrivals ns, deadlines ds and work owed os
use Rattle.std.specs.Prelude.{List, [], ◌∷◌, ℕ, get_or}
use Rattle.demand.specs.Rows.{Row, no_row}
use Rattle.machine.specs.Live.{Live}

abbrev pub no_live : Live
no_live = record { row = no_row; next = 0; due = 0; owed = 0 }

abbrev pub at_place : ℕ → List Live → Live
at_place i xs = get_or xs i no_live

unfoldable pub live_of : List Row → List ℕ → List ℕ → List ℕ → List Live
live_of [] ns ds os = []
live_of (r ∷ rs) [] ds os = []
live_of (r ∷ rs) (n ∷ ns) [] os = []
live_of (r ∷ rs) (n ∷ ns) (d ∷ ds) [] = []
live_of (r ∷ rs) (n ∷ ns) (d ∷ ds) (o ∷ os) = record { row = r; next = n; due = d; owed = o } ∷ live_of rs ns ds os
