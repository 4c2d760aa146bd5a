-- How great totals over a table in range get: all of them fit a word.
--   row_most      == what one row is called for at most: the greatest cost for each of the most ticks
--   row_due_most   == what one row has due at most: one job more
--   called_most, due_most   == those of all rows that a list may have
--   Small rs l   so few rows with such figures that a total over l ticks fits a word
use Rattle.std.specs.Prelude.{List, ℕ, ◌≤◌, length}
use Rattle.demand.specs.Limits.{tasks_most, ticks_most}
use Rattle.demand.specs.Refusals.{FairRow}
use Rattle.demand.specs.Rows.{Row, Each}

abbrev pub row_most : ℕ
row_most = 1000000000000000

abbrev pub row_due_most : ℕ
row_due_most = 1000000001000000

abbrev pub called_most : ℕ
called_most = 64000000000000000

abbrev pub due_most : ℕ
due_most = 64000000064000000

pub record Small (rs : List Row) (l : ℕ) : Type 0 where
  pub rows : Each FairRow rs
  pub count : length rs ≤ tasks_most
  pub ticks : l ≤ ticks_most
