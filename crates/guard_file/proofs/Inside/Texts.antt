-- The reader reads through every text of the layout: behind it a line end leads to the next line, with its guards read.
--   own kind j v          == field j without its comma
--   tails kind j vs       == the fields from j on, without the first comma and with the row's CR
use mathlib.Core.Bool.{Bool, true, false}
use mathlib.Core.List.{List, [], ◌∷◌, ◌++◌, append-nil, append_assoc}
use mathlib.Core.Path.{◌≡◌, refl, sym, ap, ◌∙◌}
use native.Mathlib.Nat.{pow-suc}
use native.Mathlib.Numerals.{add-one}
use native.Mathlib.Omega.{arith}
use Prim.Native.Nat.{ℕ, zero, suc, ◌+◌, ◌-◌, ◌*◌, ◌/◌, ◌%◌, ◌^◌, ◌<◌, ◌≤◌}
use lib.Dec.{ltb}
use lib.ListN.{length, set}
use lib.Seq.{set-set}
use borrow.Author.Tests.{lt-ltb, le-ltb, eq-eqb, ne_eqb}
use Rattle.demand.specs.Tests.{pick}
use Rattle.guard_file.specs.File.{digits_most, Short, header, guard_text, body, file_text, AllLawful, Lawful}
use Rattle.guard_file.specs.Inside.Building.{Reading, done, added, next, read_from, read_over}
use Rattle.guard_file.specs.Inside.Steps.{fields, word_of, given, behind, after, after_byte, noted}
use Rattle.guard_file.specs.declared.steps.State.{State}
use Rattle.guard_file.specs.declared.steps.State.TheVariants.{Head, Start, First, Digits, RowCr}
use Rattle.guard_file.specs.declared.words.Kind.{Kind}
use Rattle.guard_file.specs.declared.words.Kind.TheVariants.{Single, Burst}
use Rattle.guards.specs.declared.Guard.{Guard}
use Rattle.guards.specs.declared.Guard.TheVariants.{Strict, Bursty}
use Rattle.text.specs.Ascii.{crlf}
use Rattle.text.specs.Numbers.{last_digits, decimal, comma}
use Rattle.guard_file.proofs.Inside.Builds.{read-append}
use Rattle.text.proofs.Numbers.{few, many, digit-is, continues-is}
use Rattle.text.proofs.Tests.{by-lt}
use Rattle.guard_file.proofs.Inside.Numbers.{filled_at, filled, filled-long, Shorts, kind_of, values_of, noting, shorts, values-nine, guard-back}

abbrev pub at : State → List ℕ → List Guard → Reading
at s values gs = record { st = s; values = values; guards = gs }

-- A byte that ends no line leaves the guards as they are.
stays : (f g : State) (values : List ℕ) (gs : List Guard) (b : ℕ) → (b ≡ 10 → ⊥) → after_byte f b ≡ g
    → next (at f values gs) b ≡ at g (noted g values) gs
stays f g values gs b h e =
    let none : gs ++ added f values b ≡ gs = ap (λ (t : Bool). gs ++ pick t (done f values) []) (ne_eqb b 10 h) ∙ append-nil gs in
    λ i. record { st = e i; values = noted (e i) values; guards = none i }

read_word : (kind : Kind) (values : List ℕ) (gs : List Guard) (xs : List ℕ)
    → read_from (at Start values gs) (word_of kind ++ (comma ∷ xs)) ≡ read_from (at (First kind 0) values gs) xs
read_word Single values gs xs = simp append-nil
read_word Burst values gs xs = simp append-nil

-- ---- a number

no-digit-behind : (j d : ℕ) → 48 + d ≡ behind j → ⊥
no-digit-behind j d e = go (ltb j 8) e
  where
    go : (t : Bool) → 48 + d ≡ pick t comma 13 → ⊥
    go true e = omega arith
    go false e = omega arith

module _ (kind : Kind) (j : ℕ) (within : j < fields) (has : given kind j ≡ true) (gs : List Guard) where
  note-is : (v : ℕ) (values : List ℕ) → noted (Digits kind j v) values ≡ set values j v
  note-is v values = rw (lt-ltb j fields within)

  digit-first : (d : ℕ) (values : List ℕ) → d < 10 → next (at (First kind j) values gs) (48 + d) ≡ at (Digits kind j d) (set values j d) gs
  digit-first d values h =
      let worth : 48 + d - 48 ≡ d = omega arith in
      stays (First kind j) (Digits kind j d) values gs (48 + d) (λ x. omega arith)
      (simp (has, digit-is (48 + d) (omega arith) (omega arith), worth))
      ∙ ap (λ (z : List ℕ). at (Digits kind j d) z gs) (note-is d values)

  digit-then : (v d : ℕ) (values : List ℕ) → 0 < v → v < 10 ^ digits_most / 10 → d < 10
      → next (at (Digits kind j v) (set values j v) gs) (48 + d) ≡ at (Digits kind j (v * 10 + d)) (set values j (v * 10 + d)) gs
  digit-then v d values p q h =
      let worth : 48 + d - 48 ≡ d = omega arith in
      let goes = continues-is (10 ^ digits_most) v (48 + d) (digit-is (48 + d) (omega arith) (omega arith)) p q in
      stays (Digits kind j v) (Digits kind j (v * 10 + d)) (set values j v) gs (48 + d) (λ x. omega arith)
      (simp (ne_eqb (48 + d) (behind j) (no-digit-behind j d), goes, worth))
      ∙ ap (λ (z : List ℕ). at (Digits kind j (v * 10 + d)) z gs) (note-is (v * 10 + d) (set values j v) ∙ set-set values j v (v * 10 + d))

  read-digits : (k n : ℕ) (values : List ℕ) → n < 10 ^ suc k → Short n
      → read_from (at (First kind j) values gs) (last_digits (suc k) n) ≡ at (Digits kind j n) (set values j n) gs
  read-digits zero n values h m = ap (read_from (at (First kind j) values gs)) (few zero n h) ∙ digit-first n values h
  read-digits (suc k) n values h m =
      by-lt (read_from (at (First kind j) values gs) (last_digits (suc (suc k)) n) ≡ at (Digits kind j n) (set values j n) gs) n 10
      (λ l. ap (read_from (at (First kind j) values gs)) (few (suc k) n l) ∙ digit-first n values l)
      (λ l.
      let q : n < 10 ^ suc k * 10 = rw pow-suc at h in
      ap (read_from (at (First kind j) values gs)) (many (suc k) n l)
      ∙ read-append (at (First kind j) values gs) (last_digits (suc k) (n / 10)) ((48 + n % 10) ∷ [])
      ∙ ap (λ (w : Reading). next w (48 + n % 10)) (read-digits k (n / 10) values (omega arith) (omega arith))
      ∙ digit-then (n / 10) (n % 10) values (omega arith) (omega arith) (omega arith)
      ∙ ap (λ (x : ℕ). at (Digits kind j x) (set values j x) gs) (omega arith))

  read-decimal : (n : ℕ) (values : List ℕ) → Short n
      → read_from (at (First kind j) values gs) (decimal n) ≡ at (Digits kind j n) (set values j n) gs
  unfolding decimal
  read-decimal n values h = read-digits 19 n values (omega arith) h

-- ---- a field, and the byte behind it

abbrev own : Kind → ℕ → ℕ → List ℕ
own kind j v = pick (given kind j) (decimal v) []

-- The byte behind a field is no line end, and leads to no number.
behind-goes : (kind : Kind) (f : State) (j : ℕ) (values : List ℕ) (gs : List Guard) → after_byte f (behind j) ≡ after kind j
    → next (at f values gs) (behind j) ≡ at (after kind j) values gs
behind-goes kind f j values gs e =
    stays f (after kind j) values gs (behind j) (λ x. none (ltb j 8) x) e ∙ ap (λ (z : List ℕ). at (after kind j) z gs) (same (ltb j 8))
  where
    none : (t : Bool) → pick t comma 13 ≡ 10 → ⊥
    none true x = omega arith
    none false x = omega arith

    same : (t : Bool) → noted (pick t (First kind (j + 1)) (RowCr kind)) values ≡ values
    same true = refl
    same false = refl

read-field : (kind : Kind) (j v : ℕ) (values : List ℕ) (gs : List Guard) → j < fields → Short v
    → read_from (at (First kind j) values gs) (own kind j v ++ (behind j ∷ [])) ≡ at (after kind j) (filled_at kind j v values) gs
read-field kind j v values gs h few = go (given kind j) refl
  where
    go : (t : Bool) → given kind j ≡ t
        → read_from (at (First kind j) values gs) (pick t (decimal v) [] ++ (behind j ∷ []))
        ≡ at (after kind j) (pick t (set values j v) values) gs
    go true has =
        read-append (at (First kind j) values gs) (decimal v) (behind j ∷ [])
        ∙ ap (λ (w : Reading). next w (behind j)) (read-decimal kind j h has gs v values few)
        ∙ behind-goes kind (Digits kind j v) j (set values j v) gs (simp (eq-eqb (behind j) (behind j) refl))
    go false has = behind-goes kind (First kind j) j values gs (simp (has, eq-eqb (behind j) (behind j) refl))

-- ---- a row

abbrev tails : Kind → ℕ → List ℕ → List ℕ
tails kind j [] = []
tails kind j (v ∷ []) = own kind j v ++ (13 ∷ [])
tails kind j (v ∷ (w ∷ vs)) = own kind j v ++ (comma ∷ tails kind (suc j) (w ∷ vs))

read-tails : (kind : Kind) (j : ℕ) (values : List ℕ) (gs : List Guard) (vs : List ℕ) → 1 ≤ length vs → j + length vs ≡ fields → Shorts vs
    → read_from (at (First kind j) values gs) (tails kind j vs) ≡ at (RowCr kind) (filled kind j values vs) gs
read-tails kind j values gs [] some all short = absurd (omega arith)
read-tails kind j values gs (v ∷ []) some all short =
    let last : ltb j 8 ≡ false = le-ltb j 8 (omega arith) in
    rw last at (read-field kind j v values gs (omega arith) short.0)
read-tails kind j values gs (v ∷ (w ∷ vs)) some all short =
    let inner : ltb j 8 ≡ true = lt-ltb j 8 (omega arith) in
    let here : read_from (at (First kind j) values gs) (own kind j v ++ (comma ∷ []))
    ≡ at (First kind (suc j)) (filled_at kind j v values) gs =
    (rw inner at (read-field kind j v values gs (omega arith) short.0))
    ∙ ap (λ (n : ℕ). at (First kind n) (filled_at kind j v values) gs) (add-one j) in
    ap (read_from (at (First kind j) values gs)) (sym (append_assoc (own kind j v) (comma ∷ []) (tails kind (suc j) (w ∷ vs))))
    ∙ read-append (at (First kind j) values gs) (own kind j v ++ (comma ∷ [])) (tails kind (suc j) (w ∷ vs))
    ∙ ap (λ (x : Reading). read_from x (tails kind (suc j) (w ∷ vs))) here
    ∙ read-tails kind (suc j) (filled_at kind j v values) gs (w ∷ vs) (omega arith) (omega arith) short.1

-- The text of its row and the CR, as it is read.
row-tails : (g : Guard) → guard_text g ++ (13 ∷ []) ≡ word_of (kind_of g) ++ (comma ∷ tails (kind_of g) 0 (values_of g))
row-tails (Strict int flip setup work expire gap) = simp append_assoc
row-tails (Bursty n int flip work expire count clear gap) = simp append_assoc

read-guard : (g : Guard) (values : List ℕ) (gs : List Guard) → Lawful g → length values ≡ fields
    → read_from (read_from (at Start values gs) (guard_text g)) crlf ≡ at Start (noting g values) (gs ++ (g ∷ []))
read-guard g values gs lawful long =
    let kind = kind_of g in
    let cr : read_from (at Start values gs) (guard_text g ++ (13 ∷ [])) ≡ at (RowCr kind) (noting g values) gs =
    ap (read_from (at Start values gs)) (row-tails g)
    ∙ read_word kind values gs (tails kind 0 (values_of g))
    ∙ read-tails kind 0 values gs (values_of g) (omega (arith, values-nine g)) (omega (arith, values-nine g)) (shorts g lawful) in
    sym (ap (λ (w : Reading). next w 10) (read-append (at Start values gs) (guard_text g) (13 ∷ [])))
    ∙ ap (λ (w : Reading). next w 10) cr
    ∙ ap (λ (x : Guard). at Start (noting g values) (gs ++ (x ∷ []))) (guard-back g values long)

-- ---- all rows

abbrev noting-all : List Guard → List ℕ → List ℕ
noting-all [] values = values
noting-all (g ∷ gs) values = noting-all gs (noting g values)

-- Where a line end leads to the next line with gs read, it does so behind more rows too.
read-body : (es gs : List Guard) (values : List ℕ) (w : Reading) → AllLawful es → length values ≡ fields
    → read_from w crlf ≡ at Start values gs
    → read_from (read_from w (body es)) crlf ≡ at Start (noting-all es values) (gs ++ es)
read-body [] gs values w s long h = h ∙ ap (at Start values) (sym (append-nil gs))
read-body (e ∷ es) gs values w s long h =
    let row = read_from (at Start values gs) (guard_text e) in
    let through : read_from w (body (e ∷ es)) ≡ read_from row (body es) =
    read-append w crlf (guard_text e ++ body es)
    ∙ ap (λ (x : Reading). read_from x (guard_text e ++ body es)) h
    ∙ read-append (at Start values gs) (guard_text e) (body es) in
    let kept : length (noting e values) ≡ fields = filled-long (kind_of e) 0 values (values_of e) ∙ long in
    ap (λ (x : Reading). read_from x crlf) through
    ∙ read-body es (gs ++ (e ∷ [])) (noting e values) row s.1 kept (read-guard e values gs s.0 long)
    ∙ ap (at Start (noting-all es (noting e values))) (append_assoc gs (e ∷ []) es)

pub read-text : (es : List Guard) → AllLawful es
    → ((read_from (read_over (file_text es)) crlf).st ≡ Start) × ((read_from (read_over (file_text es)) crlf).guards ≡ es)
read-text es s =
    let whole =
    read-body es [] (0 ∷ 0 ∷ 0 ∷ 0 ∷ 0 ∷ 0 ∷ 0 ∷ 0 ∷ 0 ∷ [])
    (at (Head (length header)) (0 ∷ 0 ∷ 0 ∷ 0 ∷ 0 ∷ 0 ∷ 0 ∷ 0 ∷ 0 ∷ []) []) s refl refl in
    (ap (λ (w : Reading). w.st) whole, ap (λ (w : Reading). w.guards) whole)
