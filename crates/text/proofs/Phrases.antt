-- The English line of each number, from what the code writes.
use mathlib.Core.Bool.{Bool, true, ◌&&◌}
use mathlib.Core.List.{List, [], ◌∷◌}
use mathlib.Core.Logic.{◌⊎◌, inl, inr}
use mathlib.Core.Path.{◌≡◌, refl, sym, ap, ◌∙◌}
use native.Mathlib.Omega.{arith}
use Prim.Native.Nat.{ℕ, zero, suc, ◌≤◌, ◌<◌}
use borrow.Author.Tests.{leb-true}
use lib.Dec.{leb}
use lib.ListN.{length, get_or, get_or-eq_default}
use Rattle.demand.proofs.Divide.{le-or-lt}
use Rattle.text.specs.Ascii.{ascii}
use Rattle.text.specs.English.{phrases, english}
use Rattle.text.specs.Text.{text_most, puts_of}
use Rattle.text.proofs.Tests.{both_true}
use Rattle.text.proofs.Writes.{puts-blank}

-- ---- every line fits its space

abbrev within : List (List ℕ) → Bool
within [] = true
within (p ∷ ps) = leb (length p) text_most && within ps

get_d-within : (ps : List (List ℕ)) (d : List ℕ) (n : ℕ) → within ps ≡ true → length d ≤ text_most → length (get_or ps n d) ≤ text_most
get_d-within [] d n w h = h
get_d-within (p ∷ ps) d zero w h = leb-true (length p) text_most (both_true (leb (length p) text_most) (within ps) w).0
get_d-within (p ∷ ps) d (suc n) w h = get_d-within ps d n (both_true (leb (length p) text_most) (within ps) w).1 h

english-most : (n : ℕ) → length (english n) ≤ text_most
unfolding english
english-most n = get_d-within phrases (ascii "unknown") n refl (omega arith)

-- ---- the line of a number that is k, and of one past the table

pub said : (n k : ℕ) {r : List ℕ} → n ≡ k → r ≡ puts_of [] (english k) → r ≡ english n
said n k e w = w ∙ puts-blank (english k) (english-most k) ∙ ap english (sym e)

english-past : (n : ℕ) → length phrases ≤ n → english n ≡ ascii "unknown"
unfolding english
english-past n h = get_or-eq_default phrases (ascii "unknown") h

said-past : (n : ℕ) {r : List ℕ} → length phrases ≤ n → r ≡ puts_of [] (ascii "unknown") → r ≡ english n
said-past n h w = w ∙ puts-blank (ascii "unknown") (omega arith) ∙ sym (english-past n h)

-- Behind 14 only 18 has a line.
pub said-other : (n : ℕ) {r : List ℕ} → 15 ≤ n → (n ≡ 18 → ⊥) → r ≡ puts_of [] (ascii "unknown") → r ≡ english n
unfolding english
said-other n {r} from other w = go (le-or-lt 19 n) (le-or-lt 17 n) (le-or-lt 16 n)
  where
    go : (19 ≤ n) ⊎ (n < 19) → (17 ≤ n) ⊎ (n < 17) → (16 ≤ n) ⊎ (n < 16) → r ≡ english n
    go (inl past) b c = said-past n past w
    go (inr a) (inl b) c = said n 17 (omega arith) w
    go (inr a) (inr b) (inl c) = said n 16 (omega arith) w
    go (inr a) (inr b) (inr c) = said n 15 (omega arith) w
