-- Numbers as they are spelled (specs/Spelled): byte by byte, and a number in decimal is read as that number.
use mathlib.Core.Bool.{Bool, true, false, ◌&&◌}
use mathlib.Core.List.{List, [], ◌∷◌, ◌++◌}
use mathlib.Core.Logic.{◌⊎◌, inl, inr}
use mathlib.Core.Path.{◌≡◌, refl, sym, ap, ◌∙◌}
use native.Mathlib.Numerals.{add-one}
use native.Mathlib.Omega.{arith}
use borrow.Author.Tests.{le-ltb}
use Prim.Native.Nat.{ℕ, zero, suc, ◌+◌, ◌-◌, ◌*◌, ◌/◌, ◌%◌, ◌^◌, ◌≤◌, ◌<◌}
use lib.Dec.{ltb}
use lib.ListN.{length, get_or, drop}
use lib.Seq.{drop-cons}
use Rattle.std.proofs.lemmas.List.{drop_all}
use Rattle.demand.specs.Tests.{pick}
use Rattle.demand.proofs.Divide.{le-or-lt}
use Rattle.text.specs.Numbers.{is_digit, continues, decimal}
use Rattle.std.specs.Prelude.{Option, Some, None, unwrap_or}
use Rattle.text.specs.Spelled.{digits_from, spelled, digits_said, said, Spells, SpelledRead}
use Rattle.text.proofs.Numbers.{digit-is, continues-is, decimal-one, decimal-next, decimal-least}

-- ---- byte by byte

module _ (limit v : ℕ) (bs : List ℕ) (i : ℕ) where
  abbrev further : Option ℕ
  further = digits_said limit (v * 10 + (get_or bs i 0 - 48)) (drop (i + 1) bs)

  digits-here : i < length bs → digits_said limit v (drop i bs) ≡ pick (continues limit v (get_or bs i 0)) further None
  unfolding digits_said
  digits-here inside =
      ap (digits_said limit v) (drop-cons bs i 0 inside)
      ∙ ap (λ (k : ℕ). pick (continues limit v (get_or bs i 0)) (digits_said limit (v * 10 + (get_or bs i 0 - 48)) (drop k bs)) None) (sym (add-one i))

  -- A byte that cannot go on ends it,
  pub digits-stop : i < length bs → continues limit v (get_or bs i 0) ≡ false → digits_said limit v (drop i bs) ≡ None
  digits-stop inside e = digits-here inside ∙ ap (λ (b : Bool). pick b further None) e

  -- a digit takes it on.
  pub digits-on : i < length bs → continues limit v (get_or bs i 0) ≡ true → digits_said limit v (drop i bs) ≡ further
  digits-on inside e = digits-here inside ∙ ap (λ (b : Bool). pick b further None) e

  pub digits-end : length bs ≤ i → digits_said limit v (drop i bs) ≡ Some v
  unfolding digits_said
  digits-end past = ap (digits_said limit v) (drop_all i bs past)

-- ---- none, and the limit for none

digits-or : (limit v : ℕ) (bs : List ℕ) → unwrap_or (digits_said limit v bs) limit ≡ digits_from limit v bs
unfolding digits_said digits_from
digits-or limit v [] = refl
digits-or limit v (b ∷ bs) = go (continues limit v b) (digits-or limit (v * 10 + (b - 48)) bs)
  where
    go : (c : Bool) → unwrap_or (digits_said limit (v * 10 + (b - 48)) bs) limit ≡ digits_from limit (v * 10 + (b - 48)) bs
        → unwrap_or (pick c (digits_said limit (v * 10 + (b - 48)) bs) None) limit ≡ pick c (digits_from limit (v * 10 + (b - 48)) bs) limit
    go true rest = rest
    go false rest = refl

said-or : (limit : ℕ) (bs : List ℕ) → unwrap_or (said limit bs) limit ≡ spelled limit bs
unfolding said spelled
said-or limit [] = refl
said-or limit (b ∷ bs) = go (is_digit b)
  where
    go : (d : Bool) → unwrap_or (pick d (digits_said limit (b - 48) bs) None) limit ≡ pick d (digits_from limit (b - 48) bs) limit
    go true = digits-or limit (b - 48) bs
    go false = refl

pub spells : (limit : ℕ) (bs : List ℕ) (r : Option ℕ) → r ≡ said limit bs → Spells limit bs r
spells limit bs r e = (e, ap (λ (o : Option ℕ). unwrap_or o limit) e ∙ said-or limit bs)

-- ---- what is read, from the first byte on

pub spells-nothing : (limit : ℕ) (bs : List ℕ) → length bs ≡ 0 → Spells limit bs None
unfolding said
spells-nothing limit [] e = spells limit [] None refl
spells-nothing limit (b ∷ bs) e = absurd (omega arith)

module _ (limit : ℕ) (bs : List ℕ) (b : ℕ) (rest : List ℕ) (r : Option ℕ) (parts : bs ≡ b ∷ rest) where
  spells-parts : r ≡ pick (is_digit b) (digits_said limit (b - 48) rest) None → Spells limit bs r
  unfolding said
  spells-parts f = spells limit bs r (f ∙ sym (ap (said limit) parts))

  pub spells-stop : is_digit b ≡ false → r ≡ None → Spells limit bs r
  spells-stop e f = spells-parts (f ∙ sym (ap (λ (t : Bool). pick t (digits_said limit (b - 48) rest) None) e))

  pub spells-on : is_digit b ≡ true → (v : ℕ) → v ≡ b - 48 → r ≡ digits_said limit v rest → Spells limit bs r
  spells-on e v w f =
      spells-parts
      (f ∙ ap (λ (n : ℕ). digits_said limit n rest) w ∙ sym (ap (λ (t : Bool). pick t (digits_said limit (b - 48) rest) None) e))

-- ---- a number in decimal

-- one digit more behind a number, where it may stand
abbrev next : ℕ → ℕ → ℕ → ℕ
next limit v b = pick (continues limit v b) (v * 10 + (b - 48)) limit

-- Nothing goes on behind what is no number.
next-limit : (limit b : ℕ) → next limit limit b ≡ limit
next-limit limit b = ap (λ (t : Bool). pick (is_digit b && ltb 0 limit && t) (limit * 10 + (b - 48)) limit) (le-ltb limit (limit / 10) (omega arith)) ∙ go (is_digit b) (ltb 0 limit)
  where
    go : (c d : Bool) → pick (c && d && false) (limit * 10 + (b - 48)) limit ≡ limit
    go true true = refl
    go true false = refl
    go false d = refl

digits_last : (limit v : ℕ) (xs : List ℕ) (b : ℕ) → digits_from limit v (xs ++ (b ∷ [])) ≡ next limit (digits_from limit v xs) b
unfolding digits_from
digits_last limit v [] b = refl
digits_last limit v (x ∷ xs) b = go (continues limit v x) (digits_last limit (v * 10 + (x - 48)) xs b)
  where
    go : (c : Bool) → digits_from limit (v * 10 + (x - 48)) (xs ++ (b ∷ [])) ≡ next limit (digits_from limit (v * 10 + (x - 48)) xs) b
        → pick c (digits_from limit (v * 10 + (x - 48)) (xs ++ (b ∷ []))) limit ≡ next limit (pick c (digits_from limit (v * 10 + (x - 48)) xs) limit) b
    go true rest = rest
    go false rest = sym (next-limit limit b)

spelled-last : (limit : ℕ) (xs : List ℕ) (b : ℕ) → 1 ≤ length xs → spelled limit (xs ++ (b ∷ [])) ≡ next limit (spelled limit xs) b
unfolding spelled
spelled-last limit [] b h = absurd (omega arith)
spelled-last limit (x ∷ xs) b h = go (is_digit x)
  where
    go : (d : Bool) → pick d (digits_from limit (x - 48) (xs ++ (b ∷ []))) limit ≡ next limit (pick d (digits_from limit (x - 48) xs) limit) b
    go true = digits_last limit (x - 48) xs b
    go false = sym (next-limit limit b)

spelled-one : (limit n : ℕ) → n < 10 → spelled limit (decimal n) ≡ n
unfolding spelled digits_from
spelled-one limit n h =
    ap (spelled limit) (decimal-one n h)
    ∙ ap (λ (d : Bool). pick d ((48 + n) - 48) limit) (digit-is (48 + n) (omega arith) (omega arith))
    ∙ (let e : (48 + n) - 48 ≡ n = omega arith in e)

-- by so many numbers at most
read : (m : ℕ) → 0 < m → m * 10 ≤ 2 ^ 64 → (most n : ℕ) → n ≤ most → n < m * 10 → spelled (m * 10) (decimal n) ≡ n
read m pos wide zero n h l = spelled-one (m * 10) n (omega arith)
read m pos wide (suc most) n h l = go (le-or-lt 10 n) (λ g. read m pos wide most (n / 10) (omega arith) (omega arith))
  where
    tenth : m * 10 / 10 ≡ m
    tenth = omega arith

    go : (10 ≤ n) ⊎ (n < 10) → (10 ≤ n → spelled (m * 10) (decimal (n / 10)) ≡ n / 10) → spelled (m * 10) (decimal n) ≡ n
    go (inr s) rest = spelled-one (m * 10) n s
    go (inl g) rest =
        let digit = 48 + n % 10 in
        let goes : continues (m * 10) (n / 10) digit ≡ true =
        continues-is (m * 10) (n / 10) digit (digit-is digit (omega arith) (omega arith)) (omega arith) (omega (arith, tenth)) in
        ap (spelled (m * 10)) (decimal-next n g (omega arith))
        ∙ spelled-last (m * 10) (decimal (n / 10)) digit (decimal-least (n / 10))
        ∙ ap (λ (v : ℕ). next (m * 10) v digit) (rest g)
        ∙ ap (λ (c : Bool). pick c (n / 10 * 10 + (digit - 48)) (m * 10)) goes
        ∙ (let e : n / 10 * 10 + (digit - 48) ≡ n = omega arith in e)

pub spelled-read : SpelledRead
spelled-read m n pos wide l = read m pos wide n n (omega arith) l
