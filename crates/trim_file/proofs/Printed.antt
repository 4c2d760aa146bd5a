-- The lines fit their space, and are written part by part.
use mathlib.Core.List.{List, [], ◌∷◌, ◌++◌, append_assoc}
use mathlib.Core.Path.{◌≡◌, ◌∙◌}
use native.Mathlib.Omega.{arith}
use Prim.Native.Nat.{ℕ, ◌≤◌}
use lib.ListN.{length, length-append}
use Rattle.text.specs.Ascii.{ascii, crlf}
use Rattle.text.specs.Numbers.{decimal, fields_of}
use Rattle.text.specs.Text.{puts_of}
use Rattle.text.proofs.Numbers.{decimal-most, fields-most}
use Rattle.text.proofs.Writes.{puts-append, puts-blank}
use Rattle.trim_file.specs.Printed.{heading, cost_lines, none_lines}

-- the most bytes of both lines: a heading of 19, a task, at most three fields or two and a word, and a line end
abbrev pub lines_most : ℕ
lines_most = 128

-- Four parts in one.
pub four : (a b c d : List ℕ) {x y z r : List ℕ} → x ≡ puts_of [] a → y ≡ puts_of x b → z ≡ puts_of y c → r ≡ puts_of z d
    → r ≡ puts_of [] (a ++ (b ++ (c ++ d)))
four a b c d e f g h =
    let gathered : puts_of (puts_of (puts_of (puts_of [] a) b) c) d ≡ puts_of [] (a ++ (b ++ (c ++ d))) = simp (← puts-append, append_assoc) in
    cc gathered

four-most : (x y z : List ℕ) → length x ≤ 20 → length y ≤ 63 → length z ≤ 7 → length (heading ++ (x ++ (y ++ z))) ≤ lines_most
four-most x y z a b c = omega (arith, length-append heading (x ++ (y ++ z)), length-append x (y ++ z), length-append y z)

module _ (row code old new : ℕ) where
  pub cost-most : length (cost_lines row code old new) ≤ lines_most
  unfolding cost_lines
  cost-most = four-most (decimal row) (fields_of (code ∷ old ∷ new ∷ [])) crlf (decimal-most row) (fields-most (code ∷ old ∷ new ∷ [])) (omega arith)

  pub cost-written : {r : List ℕ} → r ≡ puts_of [] (heading ++ (decimal row ++ (fields_of (code ∷ old ∷ new ∷ []) ++ crlf)))
      → r ≡ cost_lines row code old new
  unfolding cost_lines
  cost-written e = e ∙ puts-blank (cost_lines row code old new) (omega (arith, cost-most))

module _ (row old : ℕ) where
  pub none-most : length (none_lines row old) ≤ lines_most
  unfolding none_lines
  none-most =
      four-most (decimal row) (fields_of (0 ∷ old ∷ [])) (ascii ",none" ++ crlf) (decimal-most row)
      (omega (arith, fields-most (0 ∷ old ∷ []))) (omega arith)

  pub none_written : {r : List ℕ} → r ≡ puts_of [] (heading ++ (decimal row ++ (fields_of (0 ∷ old ∷ []) ++ (ascii ",none" ++ crlf))))
      → r ≡ none_lines row old
  unfolding none_lines
  none_written e = e ∙ puts-blank (none_lines row old) (omega (arith, none-most))
