-- The two lines of a sheet fit their space, whatever count of numbers up to the most they have, and are written part by part.
use mathlib.Core.List.{List, ◌++◌, append_assoc, []}
use mathlib.Core.Path.{◌≡◌, ◌∙◌}
use native.Mathlib.Omega.{arith}
use Prim.Native.Nat.{ℕ, ◌≤◌}
use lib.ListN.{length, length-append}
use Rattle.sheet.specs.Printed.{heading, word_text, fields_most, lines, printed}
use Rattle.text.specs.Ascii.{crlf}
use Rattle.text.specs.Numbers.{fields_of}
use Rattle.text.specs.Text.{text_most, puts_of}
use Rattle.verdict.specs.Promise.{Figures, Word, numbers_of}
use Rattle.verdict.specs.Promise.Word.{fits, misses, refused}
use Rattle.text.proofs.Numbers.{fields-most}
use Rattle.text.proofs.Writes.{puts-append, puts-blank}

word-most : (w : Word) → length (word_text w) ≤ 7
word-most fits = omega arith
word-most misses = omega arith
word-most refused = omega arith

pub lines-most : (w : Word) (numbers : List ℕ) → length numbers ≤ fields_most → length (lines (word_text w) numbers) ≤ text_most
unfolding lines
lines-most w numbers few = simp length-append (omega (arith, word-most w, fields-most numbers))

-- The chain of calls that writes them: the header, the word, the numbers, the line end.
module _ (word numbers : List ℕ) where
  gathered :
      puts_of (puts_of (puts_of (puts_of [] (heading ++ crlf)) word) (fields_of numbers)) crlf
      ≡ puts_of [] (lines word numbers)
  unfolding lines
  gathered = simp (← puts-append, append_assoc)

  pub chained : {head named listed r : List ℕ} →
      head ≡ puts_of [] (heading ++ crlf) → named ≡ puts_of head word →
      listed ≡ puts_of named (fields_of numbers) → r ≡ puts_of listed crlf →
      r ≡ puts_of [] (lines word numbers)
  chained e1 e2 e3 e = cc gathered

-- The figures of any answer come out as its printed lines.
pub lines-printed : (g : Figures) (r : List ℕ) → r ≡ puts_of [] (lines (word_text g.word) (numbers_of g)) → r ≡ printed g
unfolding printed
lines-printed g r e = e ∙ puts-blank _ (lines-most g.word (numbers_of g) (omega arith))
