-- The line of a charged table (02, M-113): its name, then the figures.
--   heading             == the names of the fields
--   name_most, line_most  == the longest name that is printed whole, and the most bytes of a line
--   special b           == the byte b asks for quotes around a field (RFC 4180): a quote, a comma, or one of a line end
--   quotes b            == how many quotes go behind b in such a field: a quote is doubled
--   double b, doubled bs   == b, or two of it where it is a quote; each byte of bs so
--   name_field bs        == a name as a field
--   word_field w         == a comma and a word; part_field w l == the same and a load
--   tail_of g            == what stands behind the name
--   line_of name g       == the whole line
--   printed name g      == its bytes with zeros behind, and their count
use Rattle.std.specs.Prelude.{Bool, false, ◌||◌, List, [], ◌∷◌, ◌++◌, ℕ, min, eqb, length, replicate, take}
use Rattle.charge_lines.specs.declared.Line.{Line}
use Rattle.charges.specs.declared.figures.Figures.{Figures}
use Rattle.charges.specs.declared.figures.Word.{Word}
use Rattle.charges.specs.declared.figures.Word.TheVariants as word
use Rattle.demand.specs.Tests.{pick}
use Rattle.page.specs.Laid.{laid}
use Rattle.text.specs.Ascii.{ascii, crlf}
use Rattle.text.specs.Numbers.{fields_of}

abbrev pub heading : List ℕ
heading = ascii "name,exact,code,load,quantum,quantum load,task,task load" ++ crlf

abbrev pub name_most : ℕ
name_most = 4095

abbrev pub line_most : ℕ
line_most = 8416

-- ---- the name

abbrev pub special : ℕ → Bool
special b = eqb b 34 || eqb b 44 || eqb b 13 || eqb b 10

unfoldable pub some : (ℕ → Bool) → List ℕ → Bool
some test [] = false
some test (b ∷ bs) = test b || some test bs

abbrev pub quotes : ℕ → ℕ
quotes b = pick (eqb b 34) 1 0

abbrev pub double : ℕ → List ℕ
double b = b ∷ replicate (quotes b) 34

unfoldable pub doubled : List ℕ → List ℕ
doubled [] = []
doubled (b ∷ bs) = double b ++ doubled bs

unfoldable pub name_field : List ℕ → List ℕ
name_field bs = pick (some special bs) (34 ∷ (doubled bs ++ (34 ∷ []))) bs

-- ---- what is said of it

abbrev pub word_field : Word → List ℕ
word_field word.Fits = ascii ",fits"
word_field word.Misses = ascii ",misses"
word_field word.None = ascii ",none"
word_field word.Refused = ascii ",refused"

abbrev pub part_field : Word → ℕ → List ℕ
part_field w l = word_field w ++ fields_of (l ∷ [])

unfoldable pub tail_of : Figures → List ℕ
tail_of g =
    word_field g.exact
    ++ (fields_of (g.code ∷ g.load ∷ []) ++ (part_field g.quantum g.quantum_load ++ (part_field g.task g.task_load ++ crlf)))

-- ---- the line

unfoldable pub line_of : List ℕ → Figures → List ℕ
line_of name g = name_field (take (min (length name) name_most) name) ++ tail_of g

unfoldable pub printed : List ℕ → Figures → Line
printed name g = record { bytes = laid (replicate line_most 0) 0 (line_of name g); len = length (line_of name g) }
