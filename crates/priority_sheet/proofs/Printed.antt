-- Lines fit their space, and are written part by part.
use mathlib.Core.Bool.{Bool, true, false}
use mathlib.Core.List.{List, [], ◌∷◌, ◌++◌, append_assoc}
use mathlib.Core.Path.{◌≡◌, ◌∙◌}
use native.Mathlib.Numerals.{add-one}
use native.Mathlib.Omega.{arith}
use Prim.Native.Nat.{ℕ, zero, suc, ◌+◌, ◌*◌, ◌≤◌}
use lib.Dec.{eqb}
use lib.ListN.{length, get_or, length-append}
use Rattle.demand.specs.Tests.{pick}
use Rattle.priority_sheet.specs.Printed.{word_of, line_of, task_line, task_lines, refused_line, line_most}
use Rattle.text.specs.Ascii.{ascii, crlf}
use Rattle.text.specs.Numbers.{fields_of}
use Rattle.text.specs.Text.{text_most, puts_of}
use Rattle.text.proofs.Numbers.{fields-most}
use Rattle.text.proofs.Writes.{puts-append, puts-blank}

word-most : (l : ℕ) → length (word_of l) ≤ 7
word-most l = go (eqb l 0)
  where
    go : (b : Bool) → length (pick b (ascii "misses") (ascii "fits")) ≤ 7
    go true = omega arith
    go false = omega arith

line-most : (word ns : List ℕ) → length word ≤ 7 → length ns ≤ 3 → length (line_of word ns) ≤ line_most
line-most word ns h few = simp length-append (omega (arith, fields-most ns))

pub task-line-most : (i l : ℕ) → length (task_line i l) ≤ line_most
unfolding task_line
task-line-most i l = line-most (word_of l) (0 ∷ i ∷ l ∷ []) (word-most l) (omega arith)

pub refused-line-most : (k : ℕ) → length (refused_line k) ≤ line_most
unfolding refused_line
refused-line-most k = line-most (ascii "refused") (k ∷ 0 ∷ 0 ∷ []) (omega arith) (omega arith)

pub task-lines-most : (ls : List ℕ) (n : ℕ) → length (task_lines ls n) ≤ n * line_most
unfolding task_lines
task-lines-most ls zero = omega arith
task-lines-most ls (suc n) = omega (arith, length-append (task_lines ls n) (task_line n (get_or ls n 0)), task-lines-most ls n, task-line-most n (get_or ls n 0))

pub task-lines-next : (ls : List ℕ) (n : ℕ) → task_lines ls (n + 1) ≡ task_lines ls n ++ task_line n (get_or ls n 0)
unfolding task_lines
task-lines-next ls n = rw (add-one n)

-- The chain of calls that writes a line: the word, the numbers, the line end.
module _ (word ns : List ℕ) where
  gathered : puts_of (puts_of (puts_of [] word) (fields_of ns)) crlf ≡ puts_of [] (line_of word ns)
  gathered = simp (← puts-append, append_assoc)

  chained : {named listed r : List ℕ} → named ≡ puts_of [] word → listed ≡ puts_of named (fields_of ns) → r ≡ puts_of listed crlf
      → length (line_of word ns) ≤ text_most → r ≡ line_of word ns
  chained {r = r} e1 e2 e fits =
      let all : r ≡ puts_of [] (line_of word ns) = cc gathered in
      all ∙ puts-blank (line_of word ns) fits

pub task-line-written : (i l : ℕ) {named listed r : List ℕ} → named ≡ puts_of [] (word_of l) → listed ≡ puts_of named (fields_of (0 ∷ i ∷ l ∷ []))
    → r ≡ puts_of listed crlf → r ≡ task_line i l
unfolding task_line
task-line-written i l e1 e2 e = chained (word_of l) (0 ∷ i ∷ l ∷ []) e1 e2 e (omega (arith, line-most (word_of l) (0 ∷ i ∷ l ∷ []) (word-most l) (omega arith)))

pub refused-line-written : (k : ℕ) {named listed r : List ℕ} → named ≡ puts_of [] (ascii "refused") → listed ≡ puts_of named (fields_of (k ∷ 0 ∷ 0 ∷ []))
    → r ≡ puts_of listed crlf → r ≡ refused_line k
unfolding refused_line
refused-line-written k e1 e2 e = chained (ascii "refused") (k ∷ 0 ∷ 0 ∷ []) e1 e2 e (omega (arith, line-most (ascii "refused") (k ∷ 0 ∷ 0 ∷ []) (omega arith) (omega arith)))
