-- The layout of a file of segments (02, M-110; 01, "File and printed line"), by how rows are written as text.
--   Entry             == a row of a file: its kind, the row of the table, and the ticks from and to
--   header            == the header
--   letter_of kind     == `T` for a task, `H` for a handler
--   entry_text e       == the row e: letter and row, as in `T1`, then from and to, with commas between
--   file_text es       == the header, then each row of es on a line of its own: CRLF between lines
--   digits_most        == the most digits of a number
--   Short n           n has no more digits than that
--   Lawful e          each number of e is short
--   FileSays bs es    the file bs says the rows es: at most 2,048, their text, with or without the last CRLF
--   SaysNothing bs    the file bs breaks the layout: it says no rows
--   OneList           a file says one list of rows at most: a statement about FileSays
use Rattle.std.specs.Prelude.{List, [], ◌∷◌, ◌++◌, ◌⊎◌, ◌≡◌, ℕ, ◌^◌, ◌≤◌, ◌<◌, length}
use Rattle.demand.specs.declared.table.Kind.{Kind}
use Rattle.demand.specs.declared.table.Kind.TheVariants.{Task, Handler}
use Rattle.segments.specs.Promise.{segments_most}
use Rattle.text.specs.Ascii.{ascii, crlf}
use Rattle.text.specs.Numbers.{decimal, field}

pub data Entry : Type 0 where
  entry : Kind → ℕ → ℕ → ℕ → Entry

abbrev pub digits_most : ℕ
digits_most = 10

abbrev pub Short : ℕ → Type 0
Short n = n < 10 ^ digits_most

abbrev pub header : List ℕ
header = ascii "row,from,to"

abbrev pub letter_of : Kind → ℕ
letter_of Task = 84
letter_of Handler = 72

abbrev pub entry_text : Entry → List ℕ
entry_text (entry kind row from to) = letter_of kind ∷ (decimal row ++ (field from ++ field to))

abbrev pub body : List Entry → List ℕ
body [] = []
body (e ∷ es) = crlf ++ entry_text e ++ body es

abbrev pub file_text : List Entry → List ℕ
file_text es = header ++ body es

abbrev pub Lawful : Entry → Type 0
Lawful (entry kind row from to) = Short row × Short from × Short to

abbrev pub AllLawful : List Entry → Type 0
AllLawful [] = Unit
AllLawful (e ∷ es) = Lawful e × AllLawful es

pub record FileSays (bs : List ℕ) (es : List Entry) : Type 0 where
  pub few : length es ≤ segments_most
  pub lawful : AllLawful es
  pub written : (bs ≡ file_text es) ⊎ (bs ≡ file_text es ++ crlf)

abbrev pub SaysNothing : List ℕ → Type 0
SaysNothing bs = (es : List Entry) → FileSays bs es → ⊥

abbrev pub OneList : Type 0
OneList = (bs : List ℕ) (es fs : List Entry) → FileSays bs es → FileSays bs fs → es ≡ fs
