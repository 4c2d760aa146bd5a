-- Numbers as they are spelled in decimal, with no leading zero (01, "File and printed line").
--   digits_from limit v bs   == the number that begins with the digits of v and goes on with bs; the limit where it does not
--   spelled limit bs        == the number below the limit, a power of ten, that bs spell, the limit where they spell none
--   digits_said limit v bs, said limit bs   == the same, and none where they spell none
--   Spells limit bs r       r is the number that bs spell, or none
--   SpelledRead             a number in decimal is read as that number
use Rattle.std.specs.Prelude.{List, [], ◌∷◌, ◌≡◌, ℕ, ◌+◌, ◌-◌, ◌*◌, ◌^◌, ◌<◌, ◌≤◌, Option, Some, None, unwrap_or}
use Rattle.demand.specs.Tests.{pick}
use Rattle.text.specs.Numbers.{is_digit, continues, decimal}

unfoldable pub digits_from : ℕ → ℕ → List ℕ → ℕ
digits_from limit v [] = v
digits_from limit v (b ∷ bs) = pick (continues limit v b) (digits_from limit (v * 10 + (b - 48)) bs) limit

unfoldable pub spelled : ℕ → List ℕ → ℕ
spelled limit [] = limit
spelled limit (b ∷ bs) = pick (is_digit b) (digits_from limit (b - 48) bs) limit

unfoldable pub digits_said : ℕ → ℕ → List ℕ → Option ℕ
digits_said limit v [] = Some v
digits_said limit v (b ∷ bs) = pick (continues limit v b) (digits_said limit (v * 10 + (b - 48)) bs) None

unfoldable pub said : ℕ → List ℕ → Option ℕ
said limit [] = None
said limit (b ∷ bs) = pick (is_digit b) (digits_said limit (b - 48) bs) None

abbrev pub Spells : ℕ → List ℕ → Option ℕ → Type 0
Spells limit bs r = (r ≡ said limit bs) × (unwrap_or r limit ≡ spelled limit bs)

abbrev pub SpelledRead : Type 0
SpelledRead = (m n : ℕ) → 0 < m → m * 10 ≤ 2 ^ 64 → n < m * 10 → spelled (m * 10) (decimal n) ≡ n
