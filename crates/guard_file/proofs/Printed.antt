-- Lines fit their space, and are written part by part.
use mathlib.Core.List.{List, [], ◌∷◌, ◌++◌, append_assoc}
use mathlib.Core.Path.{◌≡◌, sym, ap, ◌∙◌}
use native.Mathlib.Numerals.{add-one}
use native.Mathlib.Omega.{arith}
use Prim.Native.Nat.{ℕ, zero, suc, ◌+◌, ◌*◌, ◌≤◌}
use lib.ListN.{length, get_or, length-append}
use Rattle.guard_file.specs.Inside.Pages.{guard_lines_by, guard_most, lines_up_to}
use Rattle.guard_file.specs.Page.{row_line, refused_text}
use Rattle.text.specs.Ascii.{ascii, crlf}
use Rattle.text.specs.Numbers.{comma, fields_of}
use Rattle.text.specs.Text.{puts_of}
use Rattle.text.proofs.Numbers.{fields-most}
use Rattle.text.proofs.Writes.{puts-append, puts-blank}

-- ---- how long they are

row-most : (c p : ℕ) → length (row_line c p) ≤ 52
row-most c p = lined (fields_of (c ∷ p ∷ [])) (fields-most (c ∷ p ∷ []))
  where
    lined : (x : List ℕ) → length x ≤ 42 → length (ascii "handler" ++ x ++ (comma ∷ crlf)) ≤ 52
    lined x h = simp length-append (omega arith)

pub guard-lines-most : (i t p : ℕ) → length (guard_lines_by i t p) ≤ guard_most
unfolding guard_lines_by
guard-lines-most i t p = omega (arith, length-append (row_line i p) (row_line t p), row-most i p, row-most t p)

pub lines-most : (ns : List ℕ) (n : ℕ) → length (lines_up_to ns n) ≤ n * guard_most
unfolding lines_up_to
lines-most ns zero = omega arith
lines-most ns (suc k) =
    let lines = guard_lines_by (get_or ns (3 * k) 0) (get_or ns (3 * k + 1) 0) (get_or ns (3 * k + 2) 0) in
    omega (
      arith,
      length-append (lines_up_to ns k) lines,
      lines-most ns k,
      guard-lines-most (get_or ns (3 * k) 0) (get_or ns (3 * k + 1) 0) (get_or ns (3 * k + 2) 0),
    )

pub refused-most : (k i : ℕ) → length (refused_text k i) ≤ 72
unfolding refused_text
refused-most k i = lined (fields_of (k ∷ i ∷ [])) (fields-most (k ∷ i ∷ []))
  where
    lined : (x : List ℕ) → length x ≤ 42 → length (ascii "guards,code,guard" ++ crlf ++ ascii "refused" ++ x ++ crlf) ≤ 72
    lined x h = simp length-append (omega arith)

pub lines_next : (ns : List ℕ) (k : ℕ)
    → lines_up_to ns (k + 1) ≡ lines_up_to ns k ++ guard_lines_by (get_or ns (3 * k) 0) (get_or ns (3 * k + 1) 0) (get_or ns (3 * k + 2) 0)
unfolding lines_up_to
lines_next ns k = rw (add-one k)

-- ---- the chains of calls that write them

-- Five parts in one.
five : (t : List ℕ) (a b c d e : List ℕ) → puts_of (puts_of (puts_of (puts_of (puts_of t a) b) c) d) e ≡ puts_of t (a ++ (b ++ (c ++ (d ++ e))))
five t a b c d e = simp (← puts-append, append_assoc)

-- what stands between the two rows of a guard
abbrev between : List ℕ
between = comma ∷ (crlf ++ ascii "handler")

module _ (i t p : ℕ) where
  abbrev first : List ℕ
  first = fields_of (i ∷ p ∷ [])

  abbrev second : List ℕ
  second = fields_of (t ∷ p ∷ [])

  guard-gathered : puts_of (puts_of (puts_of (puts_of (puts_of [] (ascii "handler")) first) between) second) (comma ∷ crlf)
      ≡ puts_of [] (guard_lines_by i t p)
  unfolding guard_lines_by
  guard-gathered =
      five [] (ascii "handler") first between second (comma ∷ crlf) ∙ ap (puts_of []) (joined first second)
    where
      joined : (x y : List ℕ) → ascii "handler" ++ (x ++ (between ++ (y ++ (comma ∷ crlf))))
          ≡ (ascii "handler" ++ x ++ (comma ∷ crlf)) ++ (ascii "handler" ++ y ++ (comma ∷ crlf))
      joined x y = ap (λ (z : List ℕ). ascii "handler" ++ z) (sym (append_assoc x (comma ∷ crlf) (ascii "handler" ++ y ++ (comma ∷ crlf))))

  pub guard-written : {a b c d r : List ℕ} → a ≡ puts_of [] (ascii "handler") → b ≡ puts_of a first → c ≡ puts_of b between
      → d ≡ puts_of c second → r ≡ puts_of d (comma ∷ crlf) → r ≡ guard_lines_by i t p
  guard-written {r = r} e1 e2 e3 e4 e =
      let all : r ≡ puts_of [] (guard_lines_by i t p) = cc guard-gathered in
      all ∙ puts-blank (guard_lines_by i t p) (omega (arith, guard-lines-most i t p))

-- the start of a refusal
abbrev refusing : List ℕ
refusing = ascii "guards,code,guard" ++ crlf ++ ascii "refused"

module _ (k i : ℕ) where
  refused-gathered : puts_of (puts_of (puts_of [] refusing) (fields_of (k ∷ i ∷ []))) crlf ≡ puts_of [] (refused_text k i)
  unfolding refused_text
  refused-gathered = simp (← puts-append, append_assoc)

  pub refused-written : {a b r : List ℕ} → a ≡ puts_of [] refusing → b ≡ puts_of a (fields_of (k ∷ i ∷ [])) → r ≡ puts_of b crlf
      → r ≡ refused_text k i
  refused-written {r = r} e1 e2 e =
      let all : r ≡ puts_of [] (refused_text k i) = cc refused-gathered in
      all ∙ puts-blank (refused_text k i) (omega (arith, refused-most k i))
