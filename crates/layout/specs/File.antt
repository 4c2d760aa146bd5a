-- The layout of a file (01, "File and printed line"; 02, M-101), by how rows are written as text.
--   Columns           == the columns that a header names, `Three` or `Four`; header_of gives its text
--   Last              == what stands behind a row's period: no field at all, an empty one or a number, the deadline
--   Entry             == a row of a file: its kind, its cost, its period and its last field
--   name_of kind       == `task` or `handler`
--   entry_text e       == the row e: the kind's name and two numbers, with commas between, then its last field
--   file_text cols es  == the header, then each row of es on a line of its own: CRLF between lines
--   file_most          == the most bytes of a file
--   rows_most          == the most rows that so many bytes can say
--   digits_most        == the most digits of a number
--   Short n           n has no more digits than that
--   EndsRow cols      which last fields a row may have: none under three columns; under four a number of so many digits,
--                     and for a handler an empty one too
--   Lawful cols e     both numbers are short, and the row's last field is one that it may have
--   FileSays bs es    the file bs says the rows es: at most 4,096 bytes, their text, with or without the last CRLF
--   SaysNothing bs    the file bs breaks the layout: it says no rows
--   OneTable          a file says one list of rows at most: a statement about FileSays
use Rattle.std.specs.Prelude.{List, [], ◌∷◌, ◌++◌, ◌⊎◌, ◌≡◌, ℕ, ◌^◌, ◌≤◌, ◌<◌, length}
use Rattle.demand.specs.declared.table.Kind.{Kind}
use Rattle.demand.specs.declared.table.Kind.TheVariants.{Task, Handler}
use Rattle.layout.specs.declared.steps.Last.{Last}
use Rattle.layout.specs.declared.steps.Last.TheVariants.{NoField, Empty, Number}
use Rattle.layout.specs.declared.words.Columns.{Columns}
use Rattle.layout.specs.declared.words.Columns.TheVariants.{Three, Four}
use Rattle.text.specs.Ascii.{ascii, crlf}
use Rattle.text.specs.Numbers.{comma, field}

pub data Entry : Type 0 where
  entry : Kind → ℕ → ℕ → Last → Entry

abbrev pub file_most : ℕ
file_most = 4096

abbrev pub rows_most : ℕ
rows_most = 408

abbrev pub digits_most : ℕ
digits_most = 7

abbrev pub Short : ℕ → Type 0
Short n = n < 10 ^ digits_most

abbrev pub header_of : Columns → List ℕ
header_of Three = ascii "kind,cost,period"
header_of Four = ascii "kind,cost,period,deadline"

abbrev pub name_of : Kind → List ℕ
name_of Task = ascii "task"
name_of Handler = ascii "handler"

abbrev pub last_text : Last → List ℕ
last_text NoField = []
last_text Empty = comma ∷ []
last_text (Number d) = field d

abbrev pub entry_text : Entry → List ℕ
entry_text (entry kind c p last) = name_of kind ++ (field c ++ (field p ++ last_text last))

abbrev pub body : List Entry → List ℕ
body [] = []
body (e ∷ es) = crlf ++ entry_text e ++ body es

abbrev pub file_text : Columns → List Entry → List ℕ
file_text cols es = header_of cols ++ body es

abbrev pub EndsRow : Columns → Last → Kind → Type 0
EndsRow Three NoField kind = Unit
EndsRow Three Empty kind = ⊥
EndsRow Three (Number d) kind = ⊥
EndsRow Four NoField kind = ⊥
EndsRow Four Empty Task = ⊥
EndsRow Four Empty Handler = Unit
EndsRow Four (Number d) kind = Short d

abbrev pub Lawful : Columns → Entry → Type 0
Lawful cols (entry kind c p last) = Short c × Short p × EndsRow cols last kind

abbrev pub AllLawful : Columns → List Entry → Type 0
AllLawful cols [] = Unit
AllLawful cols (e ∷ es) = Lawful cols e × AllLawful cols es

pub record FileSays (bs : List ℕ) (es : List Entry) : Type 0 where
  pub cols : Columns
  pub small : length bs ≤ file_most
  pub lawful : AllLawful cols es
  pub written : (bs ≡ file_text cols es) ⊎ (bs ≡ file_text cols es ++ crlf)

abbrev pub SaysNothing : List ℕ → Type 0
SaysNothing bs = (es : List Entry) → FileSays bs es → ⊥

abbrev pub OneTable : Type 0
OneTable = (bs : List ℕ) (es fs : List Entry) → FileSays bs es → FileSays bs fs → es ≡ fs
