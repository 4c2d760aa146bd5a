-- A table put into row order (02, M-111; 01, refusals 1 and 2). A list that its count alone refuses is not copied.
--   most_numbers kind    == the most numbers of a list that a table may have
--   unheld kind s       == the list s is too long for a table, or not in whole rows
--   table_held t h       == the table t, h in row order; none where a list of it is unheld
--   RefusedAlike        an unheld table is refused by its own number, 1 or 2, and its row order by the same
use Rattle.std.specs.Prelude.{Bool, true, ◌||◌, List, Option, Some, None, ◌≡◌, ℕ, ◌*◌, ◌<◌, ltb, length}
use Rattle.demand.specs.Limits.{tasks_most, handlers_most}
use Rattle.demand.specs.Refusals.{uneven, table_refusal}
use Rattle.demand.specs.Tests.{pick}
use Rattle.demand.specs.declared.table.Kind.{Kind}
use Rattle.demand.specs.declared.table.Kind.TheVariants.{Task, Handler}
use Rattle.columns.specs.Order.{row_order}
use Rattle.columns.specs.declared.Table.{Table}

abbrev pub most_numbers : Kind → ℕ
most_numbers Task = 3 * tasks_most
most_numbers Handler = 2 * handlers_most

abbrev pub unheld : Kind → List ℕ → Bool
unheld kind s = ltb (most_numbers kind) (length s) || uneven kind s

abbrev pub table_unheld : List ℕ → List ℕ → Bool
table_unheld t h = unheld Task t || unheld Handler h

abbrev pub held_of : List ℕ → List ℕ → Table
held_of t h = record { tasks = row_order Task t; handlers = row_order Handler h }

unfoldable pub table_held : List ℕ → List ℕ → Option Table
table_held t h = pick (table_unheld t h) None (Some (held_of t h))

pub record Alike (t h t' h' : List ℕ) : Type 0 where
  pub same : table_refusal t h ≡ table_refusal t' h'
  pub some : 0 < table_refusal t h

abbrev pub RefusedAlike : Type 0
RefusedAlike = (t h : List ℕ) → table_unheld t h ≡ true → Alike t h (row_order Task t) (row_order Handler h)
