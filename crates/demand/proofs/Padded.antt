-- Lists in fixed memory, with zeros behind.
use Rattle.std.proofs.Common.{arith, ap, sym, ◌∙◌, length-take-le, slice_set}
use Rattle.std.specs.Prelude.{List, [], ◌∷◌, ◌++◌, ◌≡◌, ℕ, ◌+◌, ◌-◌, ◌<◌, length, ltb, take, drop, replicate}
use Rattle.std.proofs.lemmas.Bool.{lt-ltb}
use Rattle.std.proofs.lemmas.List.{drop-drop, drop-replicate, drop-set-lt, length-set}
use Rattle.demand.specs.Inside.Padded.{IsPadded}
use Rattle.demand.specs.Tests.{pick}

-- Such a list has as many numbers as are counted.
pub padded-length : (n k : ℕ) (xs ys : List ℕ) → IsPadded n k xs → take k xs ≡ ys → length ys ≡ k
padded-length n k xs ys h e = ap length (sym e) ∙ length-take-le k xs (omega (arith, h.0, h.1))

-- One number more, where there is room for it behind those seen.
pub padded-next : (n k : ℕ) (xs ys : List ℕ) (x : ℕ) → IsPadded n k xs → take k xs ≡ ys → length ys < n → IsPadded n (k + 1) (slice_set xs k x)
padded-next n k xs ys x h e l =
    let own : length ys ≡ k = padded-length n k xs ys h e in (
      omega (arith, own, l),
      length-set xs k x ∙ h.1,
      drop-set-lt (k + 1) xs k x (omega arith) ∙ sym (drop-drop 1 k xs) ∙ ap (drop 1) h.2 ∙ drop-replicate 1 (n - k) 0
          ∙ ap (λ (m : ℕ). replicate m 0) (omega arith),
    )

-- Where there is room, a number that is put stands behind the others.
pub room-push : (n : ℕ) (xs : List ℕ) (x : ℕ) → length xs < n → pick (ltb (length xs) n) (xs ++ x ∷ []) xs ≡ xs ++ x ∷ []
room-push n xs x h = rw (lt-ltb (length xs) n h)
