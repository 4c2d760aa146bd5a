-- How the reader builds a table on its way. No public promise cites this.
--   Room t               there is room in t for a row of either kind
--   pushed t e           == the table t with the row e more
--   grown t es           == with the rows es more
--   done st              == the row whose CR was read last, where st is behind one
--   added st b           == the row that the byte b ends, read at st
--   fed t st b           == t after the byte b, read at st: a row more where b ends one
--   table_at_end cols t st == what t comes to where the file ends at st: the last line may lack its CRLF
--   Reading              == where the reader stands, and the rows that it has read whole
--   read_from cols w bs   == the reading w with the bytes bs more; next with one
--   read_over cols bs     == the reading over the bytes bs
--   rows_at_end cols w     == the rows of a file that ends at the reading w, or nothing
--   outcome bs           == the rows of the file bs, or nothing
use Rattle.std.specs.Prelude.{◌||◌, List, [], ◌∷◌, ◌++◌, ℕ, ◌+◌, ◌≤◌, eqb, ltb, length, Option, Some, None, Result, Ok, Err}
use Rattle.demand.specs.Tests.{pick}
use Rattle.demand.specs.declared.refusal.Refusal.{Refusal}
use Rattle.demand.specs.declared.refusal.Refusal.TheVariants.{FileMalformed}
use Rattle.demand.specs.declared.table.Kind.TheVariants.{Task, Handler}
use Rattle.layout.specs.File.{Entry, entry, file_most}
use Rattle.layout.specs.Inside.Steps.{after_byte, is_start, columns_of}
use Rattle.layout.specs.Table.{entry_numbers, misplaced_in, flat_most}
use Rattle.layout.specs.declared.reader.Table.{Table}
use Rattle.layout.specs.declared.steps.State.{State}
use Rattle.layout.specs.declared.steps.State.TheVariants.{Broken, Head, HeadCr, Start, Name, First, Digits, RowCr}
use Rattle.layout.specs.declared.words.Columns.{Columns}
use Rattle.text.specs.Ascii.{crlf}

abbrev pub Room : Table → Type 0
Room t = length t.tasks + length t.handlers + 3 ≤ flat_most

abbrev pub pushed : Table → Entry → Table
pushed t e =
    record {
      misplaced = misplaced_in e || t.misplaced;
      tasks = t.tasks ++ entry_numbers Task e;
      handlers = t.handlers ++ entry_numbers Handler e;
    }

abbrev pub done : State → List Entry
done (RowCr kind c p last) = entry kind c p last ∷ []
done Broken = []
done (Head k) = []
done HeadCr = []
done Start = []
done (Name kind k) = []
done (First place) = []
done (Digits place v) = []

abbrev pub added : State → ℕ → List Entry
added st b = pick (eqb b 10) (done st) []

abbrev pub grown : Table → List Entry → Table
grown t [] = t
grown t (e ∷ es) = grown (pushed t e) es

abbrev pub fed : Table → State → ℕ → Table
fed t st b = grown t (added st b)

abbrev pub table_at_end : Columns → Table → State → Result Table Refusal
table_at_end cols t st =
    pick (is_start (after_byte cols (after_byte cols st 13) 10)) (Ok (fed t (after_byte cols st 13) 10))
    (pick (is_start st) (Ok t) (Err FileMalformed))

pub record Reading : Type 0 where
  pub st : State
  pub rows : List Entry

abbrev pub next : Columns → Reading → ℕ → Reading
next cols w b = record { st = after_byte cols w.st b; rows = w.rows ++ added w.st b }

abbrev pub read_from : Columns → Reading → List ℕ → Reading
read_from cols w [] = w
read_from cols w (b ∷ bs) = read_from cols (next cols w b) bs

abbrev pub read_over : Columns → List ℕ → Reading
read_over cols bs = read_from cols (record { st = Head 0; rows = [] }) bs

abbrev pub rows_at_end : Columns → Reading → Option (List Entry)
rows_at_end cols w =
    pick (is_start (read_from cols w crlf).st) (Some (read_from cols w crlf).rows)
    (pick (is_start w.st) (Some w.rows) None)

abbrev pub outcome : List ℕ → Option (List Entry)
outcome bs = pick (ltb file_most (length bs)) None (rows_at_end (columns_of bs) (read_over (columns_of bs) bs))
