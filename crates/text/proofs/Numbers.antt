-- Laws of digits and of numbers in decimal.
use mathlib.Core.Bool.{true}
use mathlib.Core.List.{List, [], ◌∷◌, ◌++◌, append-nil, append_assoc}
use mathlib.Core.Path.{◌≡◌, refl, sym, ap, ◌∙◌}
use native.Mathlib.Nat.{pow-suc}
use native.Mathlib.Omega.{arith}
use Prim.Native.Nat.{ℕ, zero, suc, ◌+◌, ◌-◌, ◌*◌, ◌/◌, ◌%◌, ◌^◌, ◌<◌, ◌≤◌}
use lib.ListN.{length, length-append}
use borrow.Author.Tests.{lt-ltb, le-ltb, ltb-true, leb-true, le-leb}
use Rattle.text.specs.Numbers.{is_digit, continues, last_digits, decimal, field, fields_of}
use Rattle.text.proofs.Tests.{by-lt, both_true}

-- ---- a digit, and a digit behind others

pub digit-true : (b : ℕ) → is_digit b ≡ true → (48 ≤ b) × (b < 58)
digit-true b e =
    let both = both_true _ _ e in
    (leb-true 48 b both.0, omega (arith, leb-true b 57 both.1))

pub digit-is : (b : ℕ) → 48 ≤ b → b < 58 → is_digit b ≡ true
digit-is b l h = simp (le-leb 48 b l, le-leb b 57 (omega arith))

pub continues-true : (limit v b : ℕ) → continues limit v b ≡ true → (is_digit b ≡ true) × (0 < v) × (v < limit / 10)
continues-true limit v b e =
    let outer = both_true _ _ e in
    let inner = both_true _ _ outer.0 in
    (inner.0, ltb-true 0 v inner.1, ltb-true v (limit / 10) outer.1)

pub continues-is : (limit v b : ℕ) → is_digit b ≡ true → 0 < v → v < limit / 10 → continues limit v b ≡ true
continues-is limit v b e p q = simp (e, lt-ltb 0 v p, lt-ltb v (limit / 10) q)

-- With that digit more the number is below the limit.
pub continues-below : (limit v b : ℕ) → continues limit v b ≡ true → v * 10 + (b - 48) < limit
continues-below limit v b e =
    let told = continues-true limit v b e in
    let digit = digit-true b told.0 in
    omega (arith, told.2, digit.0, digit.1)

-- ---- the last digits of a number

pub few : (k n : ℕ) → n < 10 → last_digits (suc k) n ≡ (48 + n) ∷ []
few k n h = simp (lt-ltb n 10 h)

pub many : (k n : ℕ) → 10 ≤ n → last_digits (suc k) n ≡ last_digits k (n / 10) ++ ((48 + n % 10) ∷ [])
many k n h = simp (le-ltb n 10 h)

-- One more place changes nothing where there are enough.
spare : (k n : ℕ) → n < 10 ^ suc k → last_digits (suc (suc k)) n ≡ last_digits (suc k) n
spare zero n h = few (suc zero) n h ∙ sym (few zero n h)
spare (suc k) n h =
    by-lt (last_digits (suc (suc (suc k))) n ≡ last_digits (suc (suc k)) n) n 10
    (λ l. few (suc (suc k)) n l ∙ sym (few (suc k) n l))
    (λ g.
    let q : n < 10 ^ suc k * 10 = rw pow-suc at h in
    many (suc (suc k)) n g ∙ ap (λ (x : List ℕ). x ++ ((48 + n % 10) ∷ [])) (spare k (n / 10) (omega arith)) ∙ sym (many (suc k) n g))

last-length : (k n : ℕ) → length (last_digits k n) ≤ k
last-length zero n = omega arith
last-length (suc k) n =
    by-lt (length (last_digits (suc k) n) ≤ suc k) n 10
    (λ l. rw (few k n l) (omega arith))
    (λ l. rw (many k n l) (rw length-append (omega (arith, last-length k (n / 10)))))

-- ---- a number in decimal

pub decimal-one : (n : ℕ) → n < 10 → decimal n ≡ (48 + n) ∷ []
unfolding decimal
decimal-one n h = few 19 n h

pub decimal-next : (n : ℕ) → 10 ≤ n → n < 2 ^ 64 → decimal n ≡ decimal (n / 10) ++ ((48 + n % 10) ∷ [])
unfolding decimal
decimal-next n l h =
    let small : n / 10 < 10 ^ 19 = omega arith in
    many 19 n l ∙ ap (λ (x : List ℕ). x ++ ((48 + n % 10) ∷ [])) (sym (spare 18 (n / 10) small))

-- The same from the byte of the digit.
pub decimal_digit : (b : ℕ) → 48 ≤ b → b < 58 → decimal (b - 48) ≡ b ∷ []
decimal_digit b l h = decimal-one (b - 48) (omega arith) ∙ ap (λ (x : ℕ). x ∷ []) (omega arith)

pub decimal-digits : (v b : ℕ) → 0 < v → v * 10 + (b - 48) < 2 ^ 64 → 48 ≤ b → b < 58 → decimal (v * 10 + (b - 48)) ≡ decimal v ++ (b ∷ [])
decimal-digits v b p q l h =
    let front : (v * 10 + (b - 48)) / 10 ≡ v = omega arith in
    let last : 48 + (v * 10 + (b - 48)) % 10 ≡ b = omega arith in
    decimal-next (v * 10 + (b - 48)) (omega arith) q
    ∙ ap (λ (x : ℕ). decimal x ++ ((48 + (v * 10 + (b - 48)) % 10) ∷ [])) front
    ∙ ap (λ (x : ℕ). decimal v ++ (x ∷ [])) last

pub decimal-least : (n : ℕ) → 1 ≤ length (decimal n)
unfolding decimal
decimal-least n =
    by-lt (1 ≤ length (last_digits 20 n)) n 10
    (λ l. rw (few 19 n l) (omega arith))
    (λ g. rw (many 19 n g) (rw length-append (omega arith)))

pub decimal-most : (n : ℕ) → length (decimal n) ≤ 20
unfolding decimal
decimal-most n = last-length 20 n

-- ---- fields, any count of them

pub fields-append : (ms ns : List ℕ) → fields_of (ms ++ ns) ≡ fields_of ms ++ fields_of ns
fields-append [] ns = refl
fields-append (m ∷ ms) ns =
    ap (λ (z : List ℕ). field m ++ z) (fields-append ms ns) ∙ sym (append_assoc (field m) (fields_of ms) (fields_of ns))

-- One more at the end.
pub fields-next : (ns : List ℕ) (n : ℕ) → fields_of (ns ++ (n ∷ [])) ≡ fields_of ns ++ field n
fields-next ns n = fields-append ns (n ∷ []) ∙ ap (λ (z : List ℕ). fields_of ns ++ z) (append-nil (field n))

pub fields-most : (ns : List ℕ) → length (fields_of ns) ≤ 21 * length ns
fields-most [] = omega arith
fields-most (n ∷ ns) = omega (arith, length-append (field n) (fields_of ns), decimal-most n, fields-most ns)
