-- The line of a segment: written part by part, and as a schedule file has it.
use mathlib.Core.List.{List, [], ◌∷◌, ◌++◌, append_assoc, append-nil}
use mathlib.Core.Path.{◌≡◌, refl, sym, ap, ◌∙◌}
use native.Mathlib.Omega.{arith}
use Prim.Native.Nat.{ℕ, ◌≤◌}
use lib.ListN.{length, length-append}
use Rattle.demand.specs.declared.table.Kind.TheVariants.{Task, Handler}
use Rattle.own_sheet.specs.Lines.{letter_by, segment_line, LineOfFile}
use Rattle.text.specs.Ascii.{crlf}
use Rattle.text.specs.Numbers.{decimal, field, fields_of}
use Rattle.text.specs.Text.{put_of, puts_of}
use Rattle.text.proofs.Numbers.{decimal-most, fields-most}
use Rattle.text.proofs.Writes.{put_one, puts-append, puts-blank}

module _ (k row from to : ℕ) where
  abbrev ticks : List ℕ
  ticks = fields_of (from ∷ to ∷ [])

  -- Letter, row, ticks and line end, one behind the other.
  parts : segment_line k row from to ≡ (letter_by k ∷ []) ++ (decimal row ++ (ticks ++ crlf))
  unfolding segment_line
  parts =
      ap (λ (z : List ℕ). letter_by k ∷ z) (append_assoc (decimal row) (field from ++ field to) crlf)
      ∙ ap (λ (z : List ℕ). letter_by k ∷ (decimal row ++ (z ++ crlf))) (ap (λ (z : List ℕ). field from ++ z) (sym (append-nil (field to))))

  few : length (segment_line k row from to) ≤ 80
  few =
      omega (
        arith,
        ap length parts,
        length-append (decimal row) (ticks ++ crlf),
        length-append ticks crlf,
        decimal-most row,
        fields-most (from ∷ to ∷ []),
      )

  four : (t : List ℕ) → puts_of (puts_of (puts_of (puts_of t (letter_by k ∷ [])) (decimal row)) ticks) crlf ≡ puts_of t ((letter_by k ∷ []) ++ (decimal row ++ (ticks ++ crlf)))
  four t = simp (← puts-append, append_assoc)

  pub line-written : {a b c r : List ℕ} → a ≡ put_of [] (letter_by k) → b ≡ puts_of a (decimal row) → c ≡ puts_of b ticks → r ≡ puts_of c crlf
      → r ≡ segment_line k row from to
  line-written {r = r} ea eb ec e =
      let first : put_of [] (letter_by k) ≡ puts_of [] (letter_by k ∷ []) = put_one [] (letter_by k) in
      let all : r ≡ puts_of [] (segment_line k row from to) = cc (four [], ap (puts_of []) parts) in
      all ∙ puts-blank (segment_line k row from to) (omega (arith, few))

pub line-of-file : LineOfFile
unfolding segment_line
line-of-file Task row from to = refl
line-of-file Handler row from to = refl

-- The letter behind nothing.
pub first-written : (b l : ℕ) (t r : List ℕ) → l ≡ letter_by b → t ≡ [] → r ≡ put_of t l → r ≡ put_of [] (letter_by b)
first-written b l t r el et er = er ∙ ap (λ (x : ℕ). put_of t x) el ∙ ap (λ (x : List ℕ). put_of x (letter_by b)) et
