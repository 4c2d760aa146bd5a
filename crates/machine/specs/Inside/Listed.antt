-- Rows at work by place.
--   Listed rs ns ds os   the lists have a number for each row
--   live_at rs ns ds os j == the row at work at place j
use Rattle.std.specs.Prelude.{List, ◌≡◌, ℕ, length, get_or}
use Rattle.demand.specs.Rows.{Row, row_at}
use Rattle.machine.specs.Live.{Live}

pub record Listed (rs : List Row) (ns ds os : List ℕ) : Type 0 where
  pub nexts : length ns ≡ length rs
  pub dues : length ds ≡ length rs
  pub owes : length os ≡ length rs

abbrev pub live_at : List Row → List ℕ → List ℕ → List ℕ → ℕ → Live
live_at rs ns ds os j = record { row = row_at rs j; next = get_or ns j 0; due = get_or ds j 0; owed = get_or os j 0 }
