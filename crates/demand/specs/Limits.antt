-- The limits of a table and of a question (01, "Tables and figures").
--   figure_most    == the greatest cost or period
--   tasks_most     == the most tasks
--   handlers_most  == the most handlers
--   ticks_most     == the longest interval that may be asked about, the latest clock, the greatest H
use Rattle.std.specs.Prelude.{ℕ}

abbrev pub figure_most : ℕ
figure_most = 1000000

abbrev pub tasks_most : ℕ
tasks_most = 64

abbrev pub handlers_most : ℕ
handlers_most = 16

abbrev pub ticks_most : ℕ
ticks_most = 1000000000
