-- What stands behind a name, and the lines of counts (specs/Line, specs/Counts): written part by part, and within a text.
use mathlib.Core.List.{List, [], ◌∷◌, ◌++◌, append_assoc}
use mathlib.Core.Path.{◌≡◌, sym, ap, ◌∙◌}
use native.Mathlib.Omega.{arith}
use Prim.Native.Nat.{ℕ, ◌+◌, ◌≤◌}
use lib.ListN.{length, length-append}
use Rattle.charge_lines.specs.Counts.{way_name, count_line}
use Rattle.charge_lines.specs.Line.{word_field, part_field, tail_of}
use Rattle.charge_lines.specs.declared.counts.Counts.{Counts}
use Rattle.charge_lines.specs.declared.counts.Way.{Way}
use Rattle.charge_lines.specs.declared.counts.Way.TheVariants as way
use Rattle.charges.specs.declared.figures.Figures.{Figures}
use Rattle.charges.specs.declared.figures.Word.{Word}
use Rattle.charges.specs.declared.figures.Word.TheVariants as word
use Rattle.text.specs.Ascii.{crlf}
use Rattle.text.specs.Numbers.{fields_of}
use Rattle.text.specs.Text.{puts_of}
use Rattle.text.proofs.Numbers.{fields-most}
use Rattle.text.proofs.Writes.{puts-append, puts-blank}

-- ---- a charge

word-most : (w : Word) → length (word_field w) ≤ 8
word-most word.Fits = omega arith
word-most word.Misses = omega arith
word-most word.None = omega arith
word-most word.Refused = omega arith

part-most : (w : Word) (l : ℕ) → length (part_field w l) ≤ 29
part-most w l = omega (arith, length-append (word_field w) (fields_of (l ∷ [])), word-most w, fields-most (l ∷ []))

pub part-written : (t a r : List ℕ) (w : Word) (l : ℕ) → a ≡ puts_of t (word_field w) → r ≡ puts_of a (fields_of (l ∷ [])) → r ≡ puts_of t (part_field w l)
part-written t a r w l ea er = er ∙ ap (λ (z : List ℕ). puts_of z (fields_of (l ∷ []))) ea ∙ sym (puts-append t (word_field w) (fields_of (l ∷ [])))

-- ---- all that stands behind a name

-- Five parts in one.
five : (t : List ℕ) (a b c d e : List ℕ) → puts_of (puts_of (puts_of (puts_of (puts_of t a) b) c) d) e ≡ puts_of t (a ++ (b ++ (c ++ (d ++ e))))
five t a b c d e = simp (← puts-append, append_assoc)

five-length : (a b c d e : List ℕ) → length (a ++ (b ++ (c ++ (d ++ e)))) ≡ length a + (length b + (length c + (length d + length e)))
five-length a b c d e =
    omega (arith, length-append a (b ++ (c ++ (d ++ e))), length-append b (c ++ (d ++ e)), length-append c (d ++ e), length-append d e)

module _ (g : Figures) where
  abbrev numbers : List ℕ
  numbers = fields_of (g.code ∷ g.load ∷ [])

  abbrev quantum : List ℕ
  quantum = part_field g.quantum g.quantum_load

  abbrev task : List ℕ
  task = part_field g.task g.task_load

  pub tail-most : length (tail_of g) ≤ 110
  unfolding tail_of
  tail-most =
      omega (
        arith,
        five-length (word_field g.exact) numbers quantum task crlf,
        word-most g.exact,
        fields-most (g.code ∷ g.load ∷ []),
        part-most g.quantum g.quantum_load,
        part-most g.task g.task_load,
      )

  pub tail_written : {a b c d r : List ℕ} → a ≡ puts_of [] (word_field g.exact) → b ≡ puts_of a numbers → c ≡ puts_of b quantum
      → d ≡ puts_of c task → r ≡ puts_of d crlf → r ≡ tail_of g
  unfolding tail_of
  tail_written {r = r} e1 e2 e3 e4 e =
      let all : r ≡ puts_of [] (tail_of g) = cc (five [] (word_field g.exact) numbers quantum task crlf) in
      all ∙ puts-blank (tail_of g) (omega (arith, tail-most))

-- ---- the counts of a way

way-most : (w : Way) → length (way_name w) ≤ 7
way-most way.Exact = omega arith
way-most way.Quantum = omega arith
way-most way.Task = omega arith

three : (t : List ℕ) (a b c : List ℕ) → puts_of (puts_of (puts_of t a) b) c ≡ puts_of t (a ++ (b ++ c))
three t a b c = simp (← puts-append, append_assoc)

pub count-written : (w : Way) (n : Counts) {a b r : List ℕ} → a ≡ puts_of [] (way_name w) → b ≡ puts_of a (fields_of (n.fits ∷ n.misses ∷ n.none ∷ []))
    → r ≡ puts_of b crlf → r ≡ count_line w n
unfolding count_line
count-written w n {r = r} ea eb e =
    let numbers = fields_of (n.fits ∷ n.misses ∷ n.none ∷ []) in
    let short : length (count_line w n) ≤ 80 =
    omega (arith, length-append (way_name w) (numbers ++ crlf), length-append numbers crlf, way-most w, fields-most (n.fits ∷ n.misses ∷ n.none ∷ [])) in
    let all : r ≡ puts_of [] (count_line w n) = cc (three [] (way_name w) numbers crlf) in
    all ∙ puts-blank (count_line w n) (omega (arith, short))
