-- Laws of bytes laid over a page.
use mathlib.Core.Bool.{Bool, true, false, ◌&&◌}
use mathlib.Core.List.{List, [], ◌++◌, append_assoc}
use mathlib.Core.Path.{◌≡◌, sym, ap, ◌∙◌}
use native.Mathlib.Omega.{arith}
use borrow.Author.Tests.{le-leb, lt-leb}
use Prim.Native.Nat.{ℕ, ◌+◌, ◌-◌, ◌≤◌, ◌<◌}
use lib.Dec.{leb}
use lib.ListN.{length, length-append, take, drop}
use lib.Seq.{paste, paste-zero, length-paste, take-paste, drop-paste, drop-drop, take-length, sets-eq}
use Rattle.std.proofs.lemmas.List.Edits.{sets}
use Rattle.page.specs.Laid.{room, end_of, laid}

-- Where there is room, all bytes are laid;
module _ (page bs : List ℕ) (at : ℕ) (fits : at + length bs ≤ length page) where
  room-true : room (length page) at (length bs) ≡ true
  room-true = rw (le-leb at (length page) (omega arith), le-leb (length bs) (length page - at) (omega arith))

  pub end-room : end_of (length page) at (length bs) ≡ at + length bs
  unfolding end_of
  end-room = rw room-true

  pub laid-room : laid page at bs ≡ paste page at bs (length bs)
  unfolding laid
  laid-room = rw room-true

-- where there is none, none.
module _ (page bs : List ℕ) (at : ℕ) where
  no_room : room (length page) at (length bs) ≡ false → (at ≡ end_of (length page) at (length bs)) × (page ≡ laid page at bs)
  unfolding end_of laid
  no_room e = (rw e, rw e)

  pub past-page : length page < at → (at ≡ end_of (length page) at (length bs)) × (page ≡ laid page at bs)
  past-page h = no_room (ap (λ (b : Bool). b && leb (length bs) (length page - at)) (lt-leb at (length page) h))

  pub too_long : at ≤ length page → length page - at < length bs → (at ≡ end_of (length page) at (length bs)) × (page ≡ laid page at bs)
  too_long a h =
      no_room
      (ap (λ (b : Bool). b && leb (length bs) (length page - at)) (le-leb at (length page) a) ∙ lt-leb (length bs) (length page - at) h)

-- ---- what is laid behind what

module _ (page xs ys : List ℕ) (at : ℕ) (fits : at + (length xs + length ys) ≤ length page) where
  first : laid page at xs ≡ paste page at xs (length xs)
  first = laid-room page xs at (omega arith)

  long : length (paste page at xs (length xs)) ≡ length page
  long = length-paste page at xs (length xs) (omega arith) (omega arith)

  -- Two texts laid one behind the other are laid as one.
  pub laid-append : laid (laid page at xs) (at + length xs) ys ≡ laid page at (xs ++ ys)
  laid-append =
      ap (λ (p : List ℕ). laid p (at + length xs) ys) first
      ∙ laid-room (paste page at xs (length xs)) ys (at + length xs) (omega (arith, long))
      ∙ ap (λ (z : List ℕ). (z ++ take (length ys) ys) ++ drop ((at + length xs) + length ys) (paste page at xs (length xs)))
      (take-paste page at xs (length xs) (omega arith) (omega arith))
      ∙ ap (λ (z : List ℕ). ((take at page ++ take (length xs) xs) ++ take (length ys) ys) ++ z) behind
      ∙ ap (λ (z : List ℕ). z ++ drop (at + length (xs ++ ys)) page) front
      ∙ sym (laid-room page (xs ++ ys) at (omega (arith, length-append xs ys)))
    where
      behind : drop ((at + length xs) + length ys) (paste page at xs (length xs)) ≡ drop (at + length (xs ++ ys)) page
      behind =
          sym (drop-drop (length ys) (at + length xs) (paste page at xs (length xs)))
          ∙ ap (λ (z : List ℕ). drop (length ys) z) (drop-paste page at xs (length xs) (omega arith) (omega arith))
          ∙ drop-drop (length ys) (at + length xs) page
          ∙ ap (λ (n : ℕ). drop n page) (let e : (at + length xs) + length ys ≡ at + length (xs ++ ys) = omega (arith, length-append xs ys) in e)

      front : (take at page ++ take (length xs) xs) ++ take (length ys) ys ≡ take at page ++ take (length (xs ++ ys)) (xs ++ ys)
      front =
          append_assoc (take at page) (take (length xs) xs) (take (length ys) ys)
          ∙ ap (λ (z : List ℕ). take at page ++ (z ++ take (length ys) ys)) (take-length xs)
          ∙ ap (λ (z : List ℕ). take at page ++ (xs ++ z)) (take-length ys)
          ∙ ap (λ (z : List ℕ). take at page ++ z) (sym (take-length (xs ++ ys)))

-- A page keeps its length.
pub laid-length : (page bs : List ℕ) (at : ℕ) → at + length bs ≤ length page → length (laid page at bs) ≡ length page
laid-length page bs at fits = ap length (laid-room page bs at fits) ∙ length-paste page at bs (length bs) fits (omega arith)

-- Bytes that are laid where others end stand behind them.
pub lay-behind : (start : List ℕ) (at : ℕ) (xs ys page : List ℕ) (end : ℕ) → at + (length xs + length ys) ≤ length start
    → end ≡ at + length xs → page ≡ laid start at xs → (r : ℕ) (p : List ℕ)
    → (r ≡ end_of (length page) end (length ys)) × (p ≡ laid page end ys) → (r ≡ at + length (xs ++ ys)) × (p ≡ laid start at (xs ++ ys))
lay-behind start at xs ys page end fits ends is r p (er, ep) =
    let wide : length page ≡ length start = ap length is ∙ laid-length start xs at (omega arith) in
    let last : r ≡ end + length ys = er ∙ end-room page ys end (omega (arith, wide)) in (
      omega (arith, last, length-append xs ys),
      ep ∙ ap (λ (n : ℕ). laid page n ys) ends ∙ ap (λ (z : List ℕ). laid z (at + length xs) ys) is ∙ laid-append start xs ys at fits,
    )

-- Nothing laid leaves it as it is.
pub laid-nothing : (page : List ℕ) (at : ℕ) → at ≤ length page → laid page at [] ≡ page
laid-nothing page at fits = laid-room page [] at (omega arith) ∙ sym (paste-zero page at [])

-- Where there is room, one byte is stored after the other.
pub laid-sets : (page bs : List ℕ) (at : ℕ) → at + length bs ≤ length page → laid page at bs ≡ sets page at bs
laid-sets page bs at fits = laid-room page bs at fits ∙ ap (λ (xs : List ℕ). take at page ++ xs ++ drop (at + length bs) page) (take-length bs) ∙ sym (sets-eq bs page at fits)
