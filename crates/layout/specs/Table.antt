-- What a file's rows come to as the two lists of a table (01, "Tables and figures"; 02, M-101).
--   deadline_of p last   == the deadline of a task of period p: the number in its last field, or else its period
--   entry_numbers kind e == the numbers of the row e where it is of this kind: cost, period and, for a task, deadline
--   list_of kind es      == the flat list of the rows of this kind, in their order
--   flat_most            == the most numbers of a list: three for a row
--   misplaced es        == some handler of es has a deadline
--   table_of es          == the table of the rows es
--   bare_table           == a table without rows
--   ReadSays bs r       r is the reader's answer to the file bs: the table of the rows that it says, or 12 where it says none
--   OneReading          a file has one such answer and no other: a statement about ReadSays
use Rattle.std.specs.Prelude.{Bool, true, false, ◌||◌, List, [], ◌∷◌, ◌++◌, ◌⊎◌, ◌≡◌, ℕ, ◌*◌, Result, Ok, Err}
use Rattle.demand.specs.declared.refusal.Refusal.{Refusal}
use Rattle.demand.specs.declared.refusal.Refusal.TheVariants.{FileMalformed}
use Rattle.demand.specs.declared.table.Kind.{Kind}
use Rattle.demand.specs.declared.table.Kind.TheVariants.{Task, Handler}
use Rattle.layout.specs.File.{Entry, entry, rows_most, FileSays, SaysNothing}
use Rattle.layout.specs.declared.reader.Table.{Table}
use Rattle.layout.specs.declared.steps.Last.{Last}
use Rattle.layout.specs.declared.steps.Last.TheVariants.{NoField, Empty, Number}

abbrev pub deadline_of : ℕ → Last → ℕ
deadline_of p NoField = p
deadline_of p Empty = p
deadline_of p (Number d) = d

abbrev pub entry_numbers : Kind → Entry → List ℕ
entry_numbers Task (entry Task c p last) = c ∷ p ∷ deadline_of p last ∷ []
entry_numbers Task (entry Handler c p last) = []
entry_numbers Handler (entry Task c p last) = []
entry_numbers Handler (entry Handler c p last) = c ∷ p ∷ []

abbrev pub list_of : Kind → List Entry → List ℕ
list_of kind [] = []
list_of kind (e ∷ es) = entry_numbers kind e ++ list_of kind es

abbrev pub is_number : Last → Bool
is_number NoField = false
is_number Empty = false
is_number (Number d) = true

abbrev pub misplaced_in : Entry → Bool
misplaced_in (entry Task c p last) = false
misplaced_in (entry Handler c p last) = is_number last

abbrev pub misplaced : List Entry → Bool
misplaced [] = false
misplaced (e ∷ es) = misplaced_in e || misplaced es

abbrev pub flat_most : ℕ
flat_most = 3 * rows_most

abbrev pub table_of : List Entry → Table
table_of es = record { misplaced = misplaced es; tasks = list_of Task es; handlers = list_of Handler es }

abbrev pub bare_table : Table
bare_table = table_of []

unfoldable pub ReadSays : List ℕ → Result Table Refusal → Type 0
ReadSays bs r = ((es : List Entry) × FileSays bs es × (r ≡ Ok (table_of es))) ⊎ (SaysNothing bs × (r ≡ Err FileMalformed))

abbrev pub OneReading : Type 0
OneReading = (bs : List ℕ) (q r : Result Table Refusal) → ReadSays bs q → ReadSays bs r → q ≡ r
