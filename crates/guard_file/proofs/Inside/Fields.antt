-- A row, field by field, and what is known of its numbers.
--   up_to kind j values   == the fields before field j, of a row of these numbers
--   Sane values          nine numbers, all of them short
use mathlib.Core.Bool.{Bool, true, false}
use mathlib.Core.List.{List, [], ◌∷◌, ◌++◌, append-nil, append_assoc}
use mathlib.Core.Logic.{◌⊎◌, inl, inr}
use mathlib.Core.Path.{◌≡◌, refl, ◌∙◌, sym, ap}
use native.Mathlib.Numerals.{add-one}
use native.Mathlib.Omega.{arith}
use lib.ListN.{length, get_or, set, length-set, take}
use lib.Seq.{get_or-set_same, get_or-set_other, take-suc}
use Prim.Native.Nat.{ℕ, zero, suc, ◌+◌, ◌<◌, ◌≤◌}
use Rattle.demand.proofs.Divide.{le-or-lt}
use Rattle.guard_file.specs.File.{Short, guard_text, Lawful, header, file_text, body, AllLawful}
use Rattle.guard_file.specs.Inside.Steps.{fields, word_of, given, guard_of}
use Rattle.guard_file.specs.declared.words.Kind.{Kind}
use Rattle.guard_file.specs.declared.words.Kind.TheVariants.{Single, Burst}
use Rattle.guards.specs.declared.Guard.{Guard}
use Rattle.text.specs.Ascii.{crlf}
use Rattle.text.specs.Numbers.{comma, field}

-- ---- a row, field by field

abbrev pub field_by : Bool → ℕ → List ℕ
field_by true v = field v
field_by false v = comma ∷ []

abbrev pub up_to : Kind → ℕ → List ℕ → List ℕ
up_to kind zero values = []
up_to kind (suc j) values = up_to kind j values ++ field_by (given kind j) (get_or values j 0)

-- All nine are the row of the guard.
pub row-text : (kind : Kind) (values : List ℕ) → word_of kind ++ up_to kind fields values ≡ guard_text (guard_of kind values)
row-text Single values = simp (append_assoc, append-nil)
row-text Burst values = simp (append_assoc, append-nil)

-- Numbers of later fields do not change it.
pub up-to-set : (kind : Kind) (i j v : ℕ) (values : List ℕ) → i ≤ j → up_to kind i (set values j v) ≡ up_to kind i values
up-to-set kind zero j v values h = refl
up-to-set kind (suc i) j v values h =
    let same : get_or (set values j v) i 0 ≡ get_or values i 0 = get_or-set_other values j i v 0 (λ e. omega arith) in
    rw (up-to-set kind i j v values (omega arith), same)

pub word-length : (kind : Kind) → length (word_of kind) ≡ 6
word-length Single = refl
word-length Burst = refl

-- ---- what is known of the numbers

pub record Sane (values : List ℕ) : Type 0 where
  pub long : length values ≡ fields
  pub short : (i : ℕ) → Short (get_or values i 0)

pub sane-set : (values : List ℕ) (j v : ℕ) → Sane values → j < fields → Short v → Sane (set values j v)
sane-set values j v s h few = record { long = length-set values j v ∙ s.long; short = λ i. go i (le-or-lt i j) (le-or-lt j i) }
  where
    go : (i : ℕ) → (i ≤ j) ⊎ (j < i) → (j ≤ i) ⊎ (i < j) → Short (get_or (set values j v) i 0)
    go i (inl a) (inl b) =
        let same : i ≡ j = omega arith in
        rw (same, get_or-set_same values j v 0 (omega (arith, s.long))) few
    go i (inl a) (inr b) = rw (get_or-set_other values j i v 0 (λ e. omega arith)) (s.short i)
    go i (inr a) b = rw (get_or-set_other values j i v 0 (λ e. omega arith)) (s.short i)

pub lawful-guard : (kind : Kind) (values : List ℕ) → Sane values → Lawful (guard_of kind values)
lawful-guard Single values s = (tt, (s.short 1, (s.short 2, (s.short 3, (s.short 4, (s.short 5, (tt, (tt, (s.short 8, tt)))))))))
lawful-guard Burst values s =
    (s.short 0, (s.short 1, (s.short 2, (tt, (s.short 4, (s.short 5, (s.short 6, (s.short 7, (s.short 8, tt)))))))))

-- ---- texts of one byte, of one row more

-- One byte more behind a text.
pub more : (a x y l : List ℕ) (b : ℕ) → y ≡ x ++ (b ∷ []) → a ++ x ≡ l → a ++ y ≡ l ++ (b ∷ [])
more a x y l b e h = ap (λ (z : List ℕ). a ++ z) e ∙ sym (append_assoc a x (b ∷ [])) ∙ ap (λ (z : List ℕ). z ++ (b ∷ [])) h

pub take_next : (w : List ℕ) (k b : ℕ) → k < length w → b ≡ get_or w k 0 → take (k + 1) w ≡ take k w ++ (b ∷ [])
take_next w k b h e = ap (λ (n : ℕ). take n w) (add-one k) ∙ take-suc w k 0 h ∙ ap (λ (x : ℕ). take k w ++ (x ∷ [])) (sym e)

pub lawful-next : (gs : List Guard) (g : Guard) → AllLawful gs → Lawful g → AllLawful (gs ++ (g ∷ []))
lawful-next [] g f s = (s, tt)
lawful-next (x ∷ gs) g f s = (f.0, lawful-next gs g f.1 s)

body-next : (gs : List Guard) (g : Guard) → body (gs ++ (g ∷ [])) ≡ body gs ++ (crlf ++ guard_text g)
body-next [] g = ap (λ (z : List ℕ). crlf ++ z) (append-nil (guard_text g))
body-next (x ∷ gs) g =
    ap (λ (z : List ℕ). crlf ++ guard_text x ++ z) (body-next gs g)
    ∙ sym (append_assoc (crlf ++ guard_text x) (body gs) (crlf ++ guard_text g))

pub file-text-next : (gs : List Guard) (g : Guard) → file_text (gs ++ (g ∷ [])) ≡ file_text gs ++ (crlf ++ guard_text g)
file-text-next gs g = ap (λ (z : List ℕ). header ++ z) (body-next gs g) ∙ sym (append_assoc header (body gs) (crlf ++ guard_text g))
