-- The printed lines (02, M-110): the header, then the word, the refusal number or 0, and the first tick at which a rule is broken.
--   heading             == the header
--   word_text w          == `accepted`, `broken` or `refused`
--   lines word numbers  == two CRLF lines, of any word and any numbers
--   printed g           == the two lines of the figures g
use Rattle.std.specs.Prelude.{List, ◌++◌, ℕ}
use Rattle.segments.specs.Promise.{Figures, Word, numbers_of}
use Rattle.segments.specs.Promise.Word.{accepted, broken, refused}
use Rattle.text.specs.Ascii.{ascii, crlf}
use Rattle.text.specs.Numbers.{fields_of}

abbrev pub heading : List ℕ
heading = ascii "schedule,code,tick"

abbrev pub word_text : Word → List ℕ
word_text accepted = ascii "accepted"
word_text broken = ascii "broken"
word_text refused = ascii "refused"

unfoldable pub lines : List ℕ → List ℕ → List ℕ
lines word numbers = heading ++ crlf ++ word ++ fields_of numbers ++ crlf

unfoldable pub printed : Figures → List ℕ
printed g = lines (word_text g.word) (numbers_of g)
