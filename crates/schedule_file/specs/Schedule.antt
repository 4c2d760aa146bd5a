-- What a file's rows come to as the segments of a call (02, M-110).
--   kind_number kind    == 0 for a task, 1 for a handler
--   entry_numbers e     == the four numbers of the row e: kind, row, from, to
--   numbers_of es       == those of all rows, in their order
--   numbers_most        == the most numbers
--   schedule_of es      == the segments of the rows es, zeros behind, and their length
--   listed r            == the numbers in the schedule r
--   ReadSays bs r      r is the reader's answer to the file bs: the segments of the rows that it says, or 12 where it says none
--   OneReading         a file has one such answer and no other: a statement about ReadSays
use Rattle.std.specs.Prelude.{List, [], ◌∷◌, ◌++◌, ◌⊎◌, ◌≡◌, ℕ, ◌-◌, ◌*◌, length, replicate, take, Result, Ok, Err}
use Rattle.demand.specs.declared.refusal.Refusal.{Refusal}
use Rattle.demand.specs.declared.refusal.Refusal.TheVariants.{FileMalformed}
use Rattle.demand.specs.declared.table.Kind.{Kind}
use Rattle.demand.specs.declared.table.Kind.TheVariants.{Task, Handler}
use Rattle.schedule_file.specs.File.{Entry, entry, FileSays, SaysNothing}
use Rattle.schedule_file.specs.declared.reader.Schedule.{Schedule}
use Rattle.segments.specs.Promise.{segments_most}
use Rattle.segments.specs.Segments.{segment_width}

abbrev pub kind_number : Kind → ℕ
kind_number Task = 0
kind_number Handler = 1

abbrev pub entry_numbers : Entry → List ℕ
entry_numbers (entry kind row from to) = kind_number kind ∷ row ∷ from ∷ to ∷ []

unfoldable pub numbers_of : List Entry → List ℕ
numbers_of [] = []
numbers_of (e ∷ es) = entry_numbers e ++ numbers_of es

abbrev pub numbers_most : ℕ
numbers_most = segment_width * segments_most

unfoldable pub filled : List ℕ → List ℕ
filled s = s ++ replicate (numbers_most - length s) 0

abbrev pub schedule_of : List Entry → Schedule
schedule_of es = record { len = length (numbers_of es); numbers = filled (numbers_of es) }

abbrev pub listed : Schedule → List ℕ
listed r = take r.len r.numbers

unfoldable pub ReadSays : List ℕ → Result Schedule Refusal → Type 0
ReadSays bs r = ((es : List Entry) × FileSays bs es × (r ≡ Ok (schedule_of es))) ⊎ (SaysNothing bs × (r ≡ Err FileMalformed))

abbrev pub OneReading : Type 0
OneReading = (bs : List ℕ) (q r : Result Schedule Refusal) → ReadSays bs q → ReadSays bs r → q ≡ r
