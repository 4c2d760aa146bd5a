-- The layout of a file of guards (02, M-107; 01, "File and printed line"), by how rows are written as text.
--   header            == the header, a name for each field of a row
--   Field             == a field of a row: empty, or a number
--   field_text f       == the field as text: a comma, and the number where there is one
--   name_of g          == the first field of a row: `strict` or `bursty`
--   row_fields g       == the others, in the header's order: those that a guard of its kind lacks are empty
--   guard_text g       == the row of the guard g
--   file_text gs       == the header, then each row on a line of its own: CRLF between lines
--   file_most          == the most bytes of a file
--   digits_most        == the most digits of a number
--   Short n           n has no more digits than that
--   Lawful g          every number of g is short
--   FileSays bs gs    the file bs says the guards gs: at most 4,096 bytes, their text, with or without the last CRLF
--   SaysNothing bs    the file bs breaks the layout: it says no guards
--   OneList           a file says one list of guards at most: a statement about FileSays
use Rattle.std.specs.Prelude.{List, [], ◌∷◌, ◌++◌, ◌⊎◌, ◌≡◌, ℕ, ◌^◌, ◌≤◌, ◌<◌, length}
use Rattle.guards.specs.declared.Guard.{Guard}
use Rattle.guards.specs.declared.Guard.TheVariants.{Strict, Bursty}
use Rattle.text.specs.Ascii.{ascii, crlf}
use Rattle.text.specs.Numbers.{comma, field}

abbrev pub file_most : ℕ
file_most = 4096

abbrev pub digits_most : ℕ
digits_most = 10

abbrev pub header : List ℕ
header = ascii "guard,n,int,flip,setup,work,expire,count,clear,gap"

pub data Field : Type 0 where
  empty : Field
  number : ℕ → Field

abbrev pub field_text : Field → List ℕ
field_text empty = comma ∷ []
field_text (number n) = field n

abbrev pub name_of : Guard → List ℕ
name_of (Strict int flip setup work expire gap) = ascii "strict"
name_of (Bursty n int flip work expire count clear gap) = ascii "bursty"

-- n, int, flip, setup, work, expire, count, clear, gap
abbrev pub row_fields : Guard → List Field
row_fields (Strict int flip setup work expire gap) =
    empty ∷ number int ∷ number flip ∷ number setup ∷ number work ∷ number expire ∷ empty ∷ empty ∷ number gap ∷ []
row_fields (Bursty n int flip work expire count clear gap) =
    number n ∷ number int ∷ number flip ∷ empty ∷ number work ∷ number expire ∷ number count ∷ number clear ∷ number gap ∷ []

abbrev pub fields_text : List Field → List ℕ
fields_text [] = []
fields_text (f ∷ fs) = field_text f ++ fields_text fs

abbrev pub guard_text : Guard → List ℕ
guard_text g = name_of g ++ fields_text (row_fields g)

abbrev pub body : List Guard → List ℕ
body [] = []
body (g ∷ gs) = crlf ++ guard_text g ++ body gs

abbrev pub file_text : List Guard → List ℕ
file_text gs = header ++ body gs

abbrev pub Short : ℕ → Type 0
Short n = n < 10 ^ digits_most

abbrev pub ShortField : Field → Type 0
ShortField empty = Unit
ShortField (number n) = Short n

abbrev pub AllShort : List Field → Type 0
AllShort [] = Unit
AllShort (f ∷ fs) = ShortField f × AllShort fs

abbrev pub Lawful : Guard → Type 0
Lawful g = AllShort (row_fields g)

abbrev pub AllLawful : List Guard → Type 0
AllLawful [] = Unit
AllLawful (g ∷ gs) = Lawful g × AllLawful gs

pub record FileSays (bs : List ℕ) (gs : List Guard) : Type 0 where
  pub small : length bs ≤ file_most
  pub lawful : AllLawful gs
  pub written : (bs ≡ file_text gs) ⊎ (bs ≡ file_text gs ++ crlf)

abbrev pub SaysNothing : List ℕ → Type 0
SaysNothing bs = (gs : List Guard) → FileSays bs gs → ⊥

abbrev pub OneList : Type 0
OneList = (bs : List ℕ) (gs hs : List Guard) → FileSays bs gs → FileSays bs hs → gs ≡ hs
