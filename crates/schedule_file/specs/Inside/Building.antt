-- The rows that the reader has read on its way. No public promise cites this.
--   done st          == the row whose CR was read last, where st is behind one
--   added st b       == the row that the byte b ends, read at st
--   Reading          == where the reader stands, and the rows that it has read whole
--   reading st es    == such a one
--   read_from w bs    == the reading w with the bytes bs more; next with one
--   read_over bs      == the reading over the bytes bs
--   few es           == the rows es where they are at most 2,048, else nothing; few_of of an outcome
--   rows_at_end w      == the rows of a file that ends at the reading w, or nothing: the last line may lack its CRLF
--   outcome bs       == the rows of the file bs, or nothing
use Rattle.std.specs.Prelude.{List, [], ◌∷◌, ◌++◌, ℕ, eqb, ltb, length, Option, Some, None}
use Rattle.demand.specs.Tests.{pick}
use Rattle.schedule_file.specs.File.{Entry, entry}
use Rattle.schedule_file.specs.Inside.Steps.{after_byte, is_start}
use Rattle.schedule_file.specs.declared.steps.State.{State}
use Rattle.schedule_file.specs.declared.steps.State.TheVariants.{Broken, Head, HeadCr, Start, First, Digits, RowCr}
use Rattle.segments.specs.Promise.{segments_most}
use Rattle.text.specs.Ascii.{crlf}

abbrev pub done : State → List Entry
done (RowCr kind row from to) = entry kind row from to ∷ []
done Broken = []
done (Head k) = []
done HeadCr = []
done Start = []
done (First place) = []
done (Digits place v) = []

abbrev pub added : State → ℕ → List Entry
added st b = pick (eqb b 10) (done st) []

pub record Reading : Type 0 where
  pub st : State
  pub rows : List Entry

abbrev pub reading : State → List Entry → Reading
reading st es = record { st = st; rows = es }

abbrev pub next : Reading → ℕ → Reading
next w b = record { st = after_byte w.st b; rows = w.rows ++ added w.st b }

abbrev pub read_from : Reading → List ℕ → Reading
read_from w [] = w
read_from w (b ∷ bs) = read_from (next w b) bs

abbrev pub read_over : List ℕ → Reading
read_over bs = read_from (record { st = Head 0; rows = [] }) bs

abbrev pub few : List Entry → Option (List Entry)
few es = pick (ltb segments_most (length es)) None (Some es)

abbrev pub rows_at_end : Reading → Option (List Entry)
rows_at_end w =
    pick (is_start (read_from w crlf).st) (Some (read_from w crlf).rows)
    (pick (is_start w.st) (Some w.rows) None)

abbrev pub few_of : Option (List Entry) → Option (List Entry)
few_of None = None
few_of (Some es) = few es

abbrev pub outcome : List ℕ → Option (List Entry)
outcome bs = few_of (rows_at_end (read_over bs))
