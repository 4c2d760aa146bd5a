-- The printed lines (01, "File and printed line"): the header, then verdict, refusal number or 0, failing length, f there, D there, load.
--   heading             == the header: the names of the verdict and of its numbers
--   word_text w          == `fits`, `misses` or `refused`
--   fields_most          == the most numbers that a line has room for
--   lines word numbers  == two CRLF lines, of any word and any numbers
--   printed g           == the two lines of the figures g
use Rattle.std.specs.Prelude.{List, ◌++◌, ℕ}
use Rattle.text.specs.Ascii.{ascii, crlf}
use Rattle.text.specs.Numbers.{fields_of}
use Rattle.verdict.specs.Promise.{Figures, Word, numbers_of}
use Rattle.verdict.specs.Promise.Word.{fits, misses, refused}

abbrev pub heading : List ℕ
heading = ascii "verdict,code,interval,handler,task,load,left,tested"

abbrev pub word_text : Word → List ℕ
word_text fits = ascii "fits"
word_text misses = ascii "misses"
word_text refused = ascii "refused"

abbrev pub fields_most : ℕ
fields_most = 7

unfoldable pub lines : List ℕ → List ℕ → List ℕ
lines word numbers = heading ++ crlf ++ word ++ fields_of numbers ++ crlf

unfoldable pub printed : Figures → List ℕ
printed g = lines (word_text g.word) (numbers_of g)
