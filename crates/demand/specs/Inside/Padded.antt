-- A list in fixed memory: its numbers first, and zeros behind, so that its numbers tell all places.
--   padded n xs     == the list xs, and zeros behind it, in n places
--   IsPadded n k xs == of the n places xs, the first k are a list's, and zeros stand behind
--   padded-back     == the places are the list's with zeros behind: what copies of it rest on
use Rattle.std.proofs.Common.{arith, ap, sym, ◌∙◌, length-take-le, take-append-drop}
use Rattle.std.specs.Prelude.{List, ◌++◌, ◌≡◌, ℕ, ◌-◌, ◌≤◌, length, take, drop, replicate}

abbrev pub padded : ℕ → List ℕ → List ℕ
padded n xs = xs ++ replicate (n - length xs) 0

abbrev pub IsPadded : ℕ → ℕ → List ℕ → Type 0
IsPadded n k xs = (k ≤ n) × (length xs ≡ n) × (drop k xs ≡ replicate (n - k) 0)

pub padded-back : (n k : ℕ) (xs : List ℕ) → IsPadded n k xs → padded n (take k xs) ≡ xs
padded-back n k xs h =
    ap (λ (m : ℕ). take k xs ++ replicate (n - m) 0) (length-take-le k xs (omega (arith, h.0, h.1)))
    ∙ ap (λ (ys : List ℕ). take k xs ++ ys) (sym h.2)
    ∙ take-append-drop k xs
