-- The printed lines of a profile (02, M-103): the header, then a line for each task, or one refused line; each ended by CRLF.
--   heading           == the header: the verdict on the task, the refusal's number or 0, the task, its response
--   word_of l          == `fits` where the task has a response l, `misses` where that is 0
--   line_of word ns    == a line: a word, then numbers
--   task_line i l      == the line of task i, whose response is l
--   task_lines ls n    == those of the first n tasks, whose responses are ls
--   refused_line k     == the line of refusal k; figures that do not apply are 0
--   body_of r          == the lines behind the header, of responses or a refusal
--   printed r         == all lines of them
--   line_most          == the most bytes of a line: a word of 7, a comma and 20 digits for each number, the line end
use Rattle.std.specs.Prelude.{List, [], ◌∷◌, ◌++◌, ℕ, zero, suc, eqb, get_or, Result, Ok, Err}
use Rattle.demand.specs.Tests.{pick}
use Rattle.demand.specs.Numbered.{number_of}
use Rattle.demand.specs.declared.refusal.Refusal.{Refusal}
use Rattle.priority_sheet.specs.declared.Responses.{Responses}
use Rattle.text.specs.Ascii.{ascii, crlf}
use Rattle.text.specs.Numbers.{fields_of}

abbrev pub heading : List ℕ
heading = ascii "verdict,code,task,response"

abbrev pub word_of : ℕ → List ℕ
word_of l = pick (eqb l 0) (ascii "misses") (ascii "fits")

abbrev pub line_of : List ℕ → List ℕ → List ℕ
line_of word ns = word ++ fields_of ns ++ crlf

unfoldable pub task_line : ℕ → ℕ → List ℕ
task_line i l = line_of (word_of l) (0 ∷ i ∷ l ∷ [])

unfoldable pub task_lines : List ℕ → ℕ → List ℕ
task_lines ls zero = []
task_lines ls (suc n) = task_lines ls n ++ task_line n (get_or ls n 0)

unfoldable pub refused_line : ℕ → List ℕ
refused_line k = line_of (ascii "refused") (k ∷ 0 ∷ 0 ∷ [])

abbrev pub line_most : ℕ
line_most = 72

unfoldable pub body_of : Result Responses Refusal → List ℕ
body_of (Ok r) = task_lines r.least r.count
body_of (Err e) = refused_line (number_of e)

unfoldable pub printed : Result Responses Refusal → List ℕ
printed r = (heading ++ crlf) ++ body_of r
