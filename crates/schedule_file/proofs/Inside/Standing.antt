-- Where the reader stands says what it has read: each step keeps that.
--   Told place      what is known of the numbers before this one
--   Holds st es l   at st, with the rows es read whole, the bytes read so far are l
use mathlib.Core.Bool.{Bool, true, false}
use mathlib.Core.List.{List, [], ◌∷◌, ◌++◌, append-nil, append_assoc}
use mathlib.Core.Path.{◌≡◌, refl, sym, ap, subst, ◌∙◌}
use native.Mathlib.Numerals.{add-one}
use native.Mathlib.Omega.{arith}
use Prim.Native.Nat.{ℕ, ◌+◌, ◌-◌, ◌*◌, ◌^◌, ◌<◌, ◌≤◌}
use borrow.Author.Tests.{ltb-true, ltb-false, eqb-true}
use lib.Dec.{eqb}
use lib.ListN.{length, get_or, take}
use lib.Seq.{take-suc, take_all}
use Rattle.demand.specs.Tests.{pick}
use Rattle.demand.specs.declared.table.Kind.{Kind}
use Rattle.demand.specs.declared.table.Kind.TheVariants.{Task, Handler}
use Rattle.schedule_file.specs.File.{Entry, entry, digits_most, Short, header, letter_of, entry_text, body, file_text, Lawful, AllLawful}
use Rattle.schedule_file.specs.Inside.Building.{Reading, added, next, read_from, read_over}
use Rattle.schedule_file.specs.Inside.Steps.{up_to, behind, after, after_byte}
use Rattle.schedule_file.specs.declared.steps.Place.{Place}
use Rattle.schedule_file.specs.declared.steps.Place.TheVariants.{Row, From, To}
use Rattle.schedule_file.specs.declared.steps.State.{State}
use Rattle.schedule_file.specs.declared.steps.State.TheVariants.{Broken, Head, HeadCr, Start, First, Digits, RowCr}
use Rattle.text.specs.Ascii.{crlf}
use Rattle.text.specs.Numbers.{is_digit, continues, decimal}
use Rattle.text.proofs.Numbers.{digit-true, continues-true, continues-below, decimal_digit, decimal-digits}
use Rattle.text.proofs.Tests.{by}

abbrev pub Told : Place → Type 0
Told (Row kind) = Unit
Told (From kind row) = Short row
Told (To kind row from) = Short row × Short from

unfoldable pub Holds : State → List Entry → List ℕ → Type 0
Holds Broken es l = Unit
Holds (Head k) es l = (es ≡ []) × (k ≤ length header) × (take k header ≡ l)
Holds HeadCr es l = (es ≡ []) × (header ++ (13 ∷ []) ≡ l)
Holds Start es l = AllLawful es × (file_text es ++ crlf ≡ l)
Holds (First place) es l = AllLawful es × Told place × (file_text es ++ (crlf ++ up_to place) ≡ l)
Holds (Digits place v) es l = AllLawful es × Told place × Short v × (file_text es ++ (crlf ++ (up_to place ++ decimal v)) ≡ l)
Holds (RowCr kind row from to) es l =
    AllLawful es × Lawful (entry kind row from to) × (file_text es ++ (crlf ++ (entry_text (entry kind row from to) ++ (13 ∷ []))) ≡ l)

-- ---- texts of one byte, of one row more

-- One byte more behind a text.
more : (a x y l : List ℕ) (b : ℕ) → y ≡ x ++ (b ∷ []) → a ++ x ≡ l → a ++ y ≡ l ++ (b ∷ [])
more a x y l b e h = ap (λ (z : List ℕ). a ++ z) e ∙ sym (append_assoc a x (b ∷ [])) ∙ ap (λ (z : List ℕ). z ++ (b ∷ [])) h

take_next : (w : List ℕ) (k b : ℕ) → k < length w → b ≡ get_or w k 0 → take (k + 1) w ≡ take k w ++ (b ∷ [])
take_next w k b h e = ap (λ (n : ℕ). take n w) (add-one k) ∙ take-suc w k 0 h ∙ ap (λ (x : ℕ). take k w ++ (x ∷ [])) (sym e)

lawful-next : (es : List Entry) (e : Entry) → AllLawful es → Lawful e → AllLawful (es ++ (e ∷ []))
lawful-next [] e f s = (s, tt)
lawful-next (x ∷ es) e f s = (f.0, lawful-next es e f.1 s)

body-next : (es : List Entry) (e : Entry) → body (es ++ (e ∷ [])) ≡ body es ++ (crlf ++ entry_text e)
body-next [] e = ap (λ (z : List ℕ). crlf ++ z) (append-nil (entry_text e))
body-next (x ∷ es) e =
    ap (λ (z : List ℕ). crlf ++ (entry_text x ++ z)) (body-next es e)
    ∙ ap (λ (z : List ℕ). crlf ++ z) (sym (append_assoc (entry_text x) (body es) (crlf ++ entry_text e)))

file-text-next : (es : List Entry) (e : Entry) → file_text (es ++ (e ∷ [])) ≡ file_text es ++ (crlf ++ entry_text e)
file-text-next es e = ap (λ (z : List ℕ). header ++ z) (body-next es e) ∙ sym (append_assoc header (body es) (crlf ++ entry_text e))

-- A row's line end, its CR and its LF.
line-end : (x : List ℕ) (b : ℕ) → b ≡ 10 → (crlf ++ x) ++ crlf ≡ (crlf ++ (x ++ (13 ∷ []))) ++ (b ∷ [])
line-end x b e = simp (append_assoc, e)

-- ---- each way that a step can go

-- Broken says nothing.
to-broken : (es : List Entry) (l : List ℕ) → Holds Broken es l
unfolding Holds
to-broken es l = tt

module _ (es : List Entry) (l : List ℕ) (b : ℕ) where
  to-head : (k : ℕ) → Holds (Head k) es l → k < length header → b ≡ get_or header k 0 → Holds (Head (k + 1)) es (l ++ (b ∷ []))
  unfolding Holds
  to-head k h t e = (h.0, omega arith, take_next header k b t e ∙ ap (λ (z : List ℕ). z ++ (b ∷ [])) h.2)

  to-head-cr : (k : ℕ) → Holds (Head k) es l → length header ≤ k → b ≡ 13 → Holds HeadCr es (l ++ (b ∷ []))
  unfolding Holds
  to-head-cr k h t e =
      (h.0, ap (λ (x : ℕ). header ++ (x ∷ [])) (sym e) ∙ ap (λ (z : List ℕ). z ++ (b ∷ [])) (sym (take_all k header t) ∙ h.2))

  to_start : Holds HeadCr es l → b ≡ 10 → Holds Start es (l ++ (b ∷ []))
  unfolding Holds
  to_start h e = (
    subst AllLawful (sym h.0) tt,
    ap (λ (q : List Entry). file_text q ++ crlf) h.0 ∙ ap (λ (z : List ℕ). z ++ crlf) (append-nil header)
        ∙ ap (λ (x : ℕ). header ++ (13 ∷ (x ∷ []))) (sym e) ∙ sym (append_assoc header (13 ∷ []) (b ∷ []))
        ∙ ap (λ (z : List ℕ). z ++ (b ∷ [])) h.1,
  )

  to-letter : (kind : Kind) → Holds Start es l → b ≡ letter_of kind → Holds (First (Row kind)) es (l ++ (b ∷ []))
  unfolding Holds
  to-letter kind h e = (h.0, tt, more (file_text es) crlf _ l b (ap (λ (x : ℕ). 13 ∷ (10 ∷ (x ∷ []))) (sym e)) h.1)

  -- A number's first digit, and one more.
  to-digit : (place : Place) → Holds (First place) es l → is_digit b ≡ true → Holds (Digits place (b - 48)) es (l ++ (b ∷ []))
  unfolding Holds
  to-digit place h t =
      let d = digit-true b t in
      let one = ap (λ (z : List ℕ). crlf ++ (up_to place ++ z)) (decimal_digit b d.0 d.1) in
      (h.0, h.1, omega (arith, d.0, d.1), more (file_text es) (crlf ++ up_to place) _ l b one h.2)

  to-digits : (place : Place) (v : ℕ) → Holds (Digits place v) es l → continues (10 ^ digits_most) v b ≡ true
      → Holds (Digits place (v * 10 + (b - 48))) es (l ++ (b ∷ []))
  unfolding Holds
  to-digits place v h t =
      let told = continues-true (10 ^ digits_most) v b t in
      let d = digit-true b told.0 in
      let short : Short (v * 10 + (b - 48)) = continues-below (10 ^ digits_most) v b t in
      let longer = decimal-digits v b told.1 (omega (arith, short)) d.0 d.1 in
      let row : crlf ++ (up_to place ++ decimal (v * 10 + (b - 48))) ≡ (crlf ++ (up_to place ++ decimal v)) ++ (b ∷ []) =
      ap (λ (z : List ℕ). crlf ++ (up_to place ++ z)) longer
      ∙ ap (λ (z : List ℕ). crlf ++ z) (sym (append_assoc (up_to place) (decimal v) (b ∷ []))) in
      (h.0, h.1, short, more (file_text es) (crlf ++ (up_to place ++ decimal v)) _ l b row h.3)

  -- The byte behind a number.
  to-behind : (place : Place) (v : ℕ) → Holds (Digits place v) es l → b ≡ behind place → Holds (after place v) es (l ++ (b ∷ []))
  unfolding Holds
  to-behind (Row kind) v h e =
      (h.0, h.2, more (file_text es) (crlf ++ (up_to (Row kind) ++ decimal v)) _ l b (simp e) h.3)
  to-behind (From kind row) v h e =
      (h.0, (h.1, h.2), more (file_text es) (crlf ++ (up_to (From kind row) ++ decimal v)) _ l b (simp (append_assoc, e)) h.3)
  to-behind (To kind row from) v h e = (
    h.0,
    (h.1.0, h.1.1, h.2),
    more (file_text es) (crlf ++ (up_to (To kind row from) ++ decimal v)) _ l b (simp (append_assoc, e))
        h.3,
  )

  to-next-row : (kind : Kind) (row from to : ℕ) → Holds (RowCr kind row from to) es l → b ≡ 10
      → Holds Start (es ++ (entry kind row from to ∷ [])) (l ++ (b ∷ []))
  unfolding Holds
  to-next-row kind row from to h e =
      let line = entry_text (entry kind row from to) in (
        lawful-next es (entry kind row from to) h.0 h.1,
        ap (λ (z : List ℕ). z ++ crlf) (file-text-next es (entry kind row from to))
            ∙ append_assoc (file_text es) (crlf ++ line) crlf
            ∙ more (file_text es) (crlf ++ (line ++ (13 ∷ []))) _ l b (line-end line b e) h.2,
      )

-- ---- so every step keeps it

-- What each way of a choice gives.
chosen : (t : Bool) (x y : State) (es : List Entry) (l : List ℕ) → (t ≡ true → Holds x es l) → (t ≡ false → Holds y es l)
    → Holds (pick t x y) es l
chosen true x y es l f g = f refl
chosen false x y es l f g = g refl

-- No row is done where none stood before a CR.
undone : (t : Bool) (st : State) (es : List Entry) (l : List ℕ) → Holds st es l → Holds st (es ++ pick t [] []) l
undone true st es l h = rw append-nil h
undone false st es l h = rw append-nil h

-- Each step keeps what holds.
pub step_keeps : (st : State) (es : List Entry) (l : List ℕ) (b : ℕ) → Holds st es l
    → Holds (after_byte st b) (es ++ added st b) (l ++ (b ∷ []))
step_keeps Broken es l b h = to-broken _ _
step_keeps (Head k) es l b h = undone (eqb b 10) _ _ _
    (chosen _ _ _ _ _
    (λ t. chosen _ _ _ _ _ (λ e. to-head es l b k h (ltb-true _ _ t) (eqb-true _ _ e)) (λ e. to-broken _ _))
    (λ t. chosen _ _ _ _ _ (λ e. to-head-cr es l b k h (ltb-false _ _ t) (eqb-true _ _ e)) (λ e. to-broken _ _)))
step_keeps HeadCr es l b h =
    undone (eqb b 10) _ _ _ (chosen _ _ _ _ _ (λ e. to_start es l b h (eqb-true _ _ e)) (λ e. to-broken _ _))
step_keeps Start es l b h = undone (eqb b 10) _ _ _
    (chosen _ _ _ _ _ (λ e. to-letter es l b Task h (eqb-true _ _ e))
    (λ n. chosen _ _ _ _ _ (λ e. to-letter es l b Handler h (eqb-true _ _ e)) (λ e. to-broken _ _)))
step_keeps (First place) es l b h =
    undone (eqb b 10) _ _ _ (chosen _ _ _ _ _ (λ t. to-digit es l b place h t) (λ t. to-broken _ _))
step_keeps (Digits place v) es l b h = undone (eqb b 10) _ _ _
    (chosen _ _ _ _ _ (λ e. to-behind es l b place v h (eqb-true _ _ e))
    (λ n. chosen _ _ _ _ _ (λ t. to-digits es l b place v h t) (λ t. to-broken _ _)))
step_keeps (RowCr kind row from to) es l b h =
    by (λ t. Holds (pick t Start Broken) (es ++ pick t (entry kind row from to ∷ []) []) (l ++ (b ∷ []))) (eqb b 10)
    (λ e. to-next-row es l b kind row from to h (eqb-true _ _ e))
    (λ e. to-broken _ _)

holds-first : Holds (Head 0) [] []
unfolding Holds
holds-first = (refl, omega arith, refl)

holds-from : (w : Reading) (l bs : List ℕ) → Holds w.st w.rows l → Holds (read_from w bs).st (read_from w bs).rows (l ++ bs)
holds-from w l [] h = rw append-nil h
holds-from w l (b ∷ bs) h = rw append_assoc at (holds-from (next w b) (l ++ (b ∷ [])) bs (step_keeps w.st w.rows l b h))

-- After any bytes the state holds of them.
pub holds : (bs : List ℕ) → Holds (read_over bs).st (read_over bs).rows bs
holds bs = holds-from (record { st = Head 0; rows = [] }) [] bs holds-first
