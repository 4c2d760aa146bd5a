-- A text that has room is written whole, byte by byte.
use mathlib.Core.List.{List, [], ◌∷◌, ◌++◌, append-nil, append_assoc}
use mathlib.Core.Path.{◌≡◌, refl, sym, ap, ◌∙◌}
use native.Mathlib.Numerals.{add-one}
use native.Mathlib.Omega.{arith}
use Prim.Native.Nat.{ℕ, ◌+◌, ◌/◌, ◌%◌, ◌^◌, ◌<◌, ◌≤◌}
use borrow.Author.Tests.{lt-ltb}
use lib.ListN.{length, take, get_or, length-append}
use lib.Seq.{take-suc}
use Rattle.text.specs.Numbers.{decimal, comma, fields_of}
use Rattle.text.specs.Text.{text_most, put_of, puts_of}
use Rattle.text.proofs.Numbers.{decimal-one, decimal-next, fields-next}

pub puts_none : (t : List ℕ) → t ≡ puts_of t []
unfolding puts_of
puts_none t = refl

pub put_one : (t : List ℕ) (b : ℕ) → put_of t b ≡ puts_of t (b ∷ [])
unfolding puts_of
put_one t b = refl

pub puts-append : (t : List ℕ) (xs ys : List ℕ) → puts_of t (xs ++ ys) ≡ puts_of (puts_of t xs) ys
unfolding puts_of
puts-append t [] ys = refl
puts-append t (x ∷ xs) ys = puts-append (put_of t x) xs ys

-- One byte more of a slice.
pub puts-take : (t : List ℕ) (s : List ℕ) (i : ℕ) → i < length s → put_of (puts_of t (take i s)) (get_or s i 0) ≡ puts_of t (take (i + 1) s)
puts-take t s i h =
    put_one (puts_of t (take i s)) (get_or s i 0) ∙ sym (puts-append t (take i s) (get_or s i 0 ∷ []))
    ∙ sym (ap (λ (n : ℕ). puts_of t (take n s)) (add-one i) ∙ ap (puts_of t) (take-suc s i 0 h))

-- ---- a number

pub puts-digit : (t : List ℕ) (n : ℕ) → n < 10 → put_of t (48 + n) ≡ puts_of t (decimal n)
puts-digit t n h = put_one t (48 + n) ∙ ap (puts_of t) (sym (decimal-one n h))

pub puts-digits : (t : List ℕ) (n : ℕ) → 10 ≤ n → n < 2 ^ 64 → put_of (puts_of t (decimal (n / 10))) (48 + n % 10) ≡ puts_of t (decimal n)
puts-digits t n l h =
    put_one (puts_of t (decimal (n / 10))) (48 + n % 10) ∙ sym (puts-append t (decimal (n / 10)) ((48 + n % 10) ∷ []))
    ∙ ap (puts_of t) (sym (decimal-next n l h))

-- ---- fields

-- One number more of a slice.
pub fields-take : (t : List ℕ) (s : List ℕ) (i : ℕ) → i < length s →
    puts_of (put_of (puts_of t (fields_of (take i s))) comma) (decimal (get_or s i 0)) ≡ puts_of t (fields_of (take (i + 1) s))
fields-take t s i h =
    let n = get_or s i 0 in
    let before = fields_of (take i s) in
    ap (λ (x : List ℕ). puts_of x (decimal n)) (put_one (puts_of t before) comma)
    ∙ sym (puts-append (puts_of t before) (comma ∷ []) (decimal n))
    ∙ sym (puts-append t before (comma ∷ decimal n))
    ∙ ap (puts_of t) (sym (fields-next (take i s) n))
    ∙ sym (ap (λ (k : ℕ). puts_of t (fields_of (take k s))) (add-one i) ∙ ap (λ (x : List ℕ). puts_of t (fields_of x)) (take-suc s i 0 h))

-- ---- from the empty text

put-text : (xs : List ℕ) (b : ℕ) → length xs < text_most → put_of xs b ≡ xs ++ (b ∷ [])
unfolding put_of
put-text xs b h = rw (lt-ltb (length xs) text_most h) refl

puts-text : (xs bs : List ℕ) → length xs + length bs ≤ text_most → puts_of xs bs ≡ xs ++ bs
unfolding puts_of
puts-text xs [] h = sym (append-nil xs)
puts-text xs (b ∷ bs) h =
    ap (λ (t : List ℕ). puts_of t bs) (put-text xs b (omega arith))
    ∙ puts-text (xs ++ (b ∷ [])) bs (omega (arith, length-append xs (b ∷ [])))
    ∙ append_assoc xs (b ∷ []) bs

pub puts-blank : (bs : List ℕ) → length bs ≤ text_most → puts_of [] bs ≡ bs
puts-blank bs h = puts-text [] bs (omega arith)
