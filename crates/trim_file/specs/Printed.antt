-- What is printed of a trim (02, M-112): two lines, then the new table where there is one.
--   heading            == the names of the fields
--   cost_lines          == the lines of a task with its number, the refusal's or 0, and old and new cost
--   none_lines          == those of a task that fits at no cost from 1
--   Outcome            == what a file comes to: a refusal; no cost that fits, beside the present one; or old and new cost, and the new file
--   lines_of row o      == the lines of an outcome; figures that do not apply are 0
--   file_of o           == the bytes behind them: the new file, or none
use Rattle.std.specs.Prelude.{List, [], ◌∷◌, ◌++◌, ℕ}
use Rattle.text.specs.Ascii.{ascii, crlf}
use Rattle.text.specs.Numbers.{decimal, fields_of}

abbrev pub heading : List ℕ
heading = ascii "task,code,old,new" ++ crlf

unfoldable pub cost_lines : ℕ → ℕ → ℕ → ℕ → List ℕ
cost_lines row code old new = heading ++ (decimal row ++ (fields_of (code ∷ old ∷ new ∷ []) ++ crlf))

unfoldable pub none_lines : ℕ → ℕ → List ℕ
none_lines row old = heading ++ (decimal row ++ (fields_of (0 ∷ old ∷ []) ++ (ascii ",none" ++ crlf)))

pub data Outcome : Type 0 where
  refused : ℕ → Outcome
  none : ℕ → Outcome
  cost : ℕ → ℕ → List ℕ → Outcome

abbrev pub lines_of : ℕ → Outcome → List ℕ
lines_of row (refused k) = cost_lines 0 k 0 0
lines_of row (none old) = none_lines row old
lines_of row (cost old new file) = cost_lines row 0 old new

abbrev pub file_of : Outcome → List ℕ
file_of (refused k) = []
file_of (none old) = []
file_of (cost old new file) = file

abbrev pub number_of : Outcome → ℕ
number_of (refused k) = k
number_of (none old) = 0
number_of (cost old new file) = 0
