-- Where the reader stands says what it has read: each step keeps that.
--   Holds cols st es l   at st, with the rows es read whole under a header of these columns, the bytes read so far are l
use mathlib.Core.Bool.{Bool, true, false}
use mathlib.Core.List.{List, [], ◌∷◌, ◌++◌, append-nil, append_assoc}
use mathlib.Core.Path.{◌≡◌, refl, sym, ap, subst, ◌∙◌}
use native.Mathlib.Numerals.{add-one}
use native.Mathlib.Omega.{arith}
use Prim.Native.Nat.{ℕ, ◌+◌, ◌-◌, ◌*◌, ◌^◌, ◌<◌, ◌≤◌}
use borrow.Author.Tests.{ltb-true, ltb-false, eqb-true}
use lib.Dec.{eqb}
use lib.ListN.{length, get_or, take}
use lib.Seq.{take-suc, take_all}
use Rattle.demand.specs.Tests.{pick}
use Rattle.demand.specs.declared.table.Kind.{Kind}
use Rattle.demand.specs.declared.table.Kind.TheVariants.{Task, Handler}
use Rattle.layout.specs.File.{Entry, entry, digits_most, Short, header_of, name_of, entry_text, file_text, EndsRow, Lawful, AllLawful}
use Rattle.layout.specs.Inside.Building.{Reading, added, next, read_from, read_over}
use Rattle.layout.specs.Inside.Steps.{up_to, behind_period, after_period, behind, after, empty_last, emptied, after_byte}
use Rattle.layout.specs.declared.steps.Last.{Last}
use Rattle.layout.specs.declared.steps.Last.TheVariants.{NoField, Empty, Number}
use Rattle.layout.specs.declared.steps.Place.{Place}
use Rattle.layout.specs.declared.steps.Place.TheVariants.{Cost, Period, Deadline}
use Rattle.layout.specs.declared.steps.State.{State}
use Rattle.layout.specs.declared.steps.State.TheVariants.{Broken, Head, HeadCr, Start, Name, First, Digits, RowCr}
use Rattle.layout.specs.declared.words.Columns.{Columns}
use Rattle.layout.specs.declared.words.Columns.TheVariants.{Three, Four}
use Rattle.text.specs.Ascii.{crlf}
use Rattle.text.specs.Numbers.{is_digit, continues, decimal, comma, field}
use Rattle.layout.proofs.Places.{file-text-append, up-to-period, up-to-deadline}
use Rattle.text.proofs.Numbers.{digit-true, continues-true, continues-below, decimal_digit, decimal-digits}
use Rattle.text.proofs.Tests.{by}

-- what is known of the numbers before this one
abbrev pub Told : Columns → Place → Type 0
Told cols (Cost kind) = Unit
Told cols (Period kind c) = Short c
Told cols (Deadline kind c p) = Short c × Short p × (cols ≡ Four)

unfoldable pub Holds : Columns → State → List Entry → List ℕ → Type 0
Holds cols Broken es l = Unit
Holds cols (Head k) es l = (es ≡ []) × (k ≤ length (header_of cols)) × (take k (header_of cols) ≡ l)
Holds cols HeadCr es l = (es ≡ []) × (header_of cols ++ (13 ∷ []) ≡ l)
Holds cols Start es l = AllLawful cols es × (file_text cols es ++ crlf ≡ l)
Holds cols (Name kind k) es l = AllLawful cols es × (k ≤ length (name_of kind)) × (file_text cols es ++ (crlf ++ take k (name_of kind)) ≡ l)
Holds cols (First place) es l = AllLawful cols es × Told cols place × (file_text cols es ++ (crlf ++ up_to place) ≡ l)
Holds cols (Digits place v) es l =
    AllLawful cols es × Told cols place × Short v × (file_text cols es ++ (crlf ++ (up_to place ++ decimal v)) ≡ l)
Holds cols (RowCr kind c p last) es l =
    AllLawful cols es × Lawful cols (entry kind c p last) × (file_text cols es ++ (crlf ++ (entry_text (entry kind c p last) ++ (13 ∷ []))) ≡ l)

-- ---- texts of one byte, of one row more

-- One byte more behind a text.
more : (a x y l : List ℕ) (b : ℕ) → y ≡ x ++ (b ∷ []) → a ++ x ≡ l → a ++ y ≡ l ++ (b ∷ [])
more a x y l b e h = ap (λ (z : List ℕ). a ++ z) e ∙ sym (append_assoc a x (b ∷ [])) ∙ ap (λ (z : List ℕ). z ++ (b ∷ [])) h

take_next : (w : List ℕ) (k b : ℕ) → k < length w → b ≡ get_or w k 0 → take (k + 1) w ≡ take k w ++ (b ∷ [])
take_next w k b h e = ap (λ (n : ℕ). take n w) (add-one k) ∙ take-suc w k 0 h ∙ ap (λ (x : ℕ). take k w ++ (x ∷ [])) (sym e)

lawful-next : (cols : Columns) (es : List Entry) (e : Entry) → AllLawful cols es → Lawful cols e → AllLawful cols (es ++ (e ∷ []))
lawful-next cols [] e f s = (s, tt)
lawful-next cols (x ∷ es) e f s = (f.0, lawful-next cols es e f.1 s)

file-text-next : (cols : Columns) (es : List Entry) (e : Entry) → file_text cols (es ++ (e ∷ [])) ≡ file_text cols es ++ (crlf ++ entry_text e)
file-text-next cols es e =
    file-text-append cols es (e ∷ []) ∙ ap (λ (z : List ℕ). file_text cols es ++ (crlf ++ z)) (append-nil (entry_text e))

-- A row's line end, its CR and its LF.
line-end : (x : List ℕ) (b : ℕ) → b ≡ 10 → (crlf ++ x) ++ crlf ≡ (crlf ++ (x ++ (13 ∷ []))) ++ (b ∷ [])
line-end x b e = simp (append_assoc, e)

-- ---- each way that a step can go

-- Broken says nothing.
to-broken : (cols : Columns) (es : List Entry) (l : List ℕ) → Holds cols Broken es l
unfolding Holds
to-broken cols es l = tt

-- Behind a period stands the row's end, or the comma before its last field.
to-behind-period : (cols : Columns) (es : List Entry) (l : List ℕ) (b : ℕ) (kind : Kind) (c v : ℕ) →
    Holds cols (Digits (Period kind c) v) es l → b ≡ behind_period cols → Holds cols (after_period cols kind c v) es (l ++ (b ∷ []))
unfolding Holds
to-behind-period Three es l b kind c v h e =
    let row : entry_text (entry kind c v NoField) ≡ up_to (Period kind c) ++ decimal v =
    ap (λ (z : List ℕ). name_of kind ++ (field c ++ z)) (append-nil (field v)) ∙ sym (up-to-period kind c v) in
    let cr : crlf ++ (entry_text (entry kind c v NoField) ++ (13 ∷ [])) ≡ crlf ++ ((up_to (Period kind c) ++ decimal v) ++ (b ∷ [])) =
    ap (λ (z : List ℕ). crlf ++ (z ++ (13 ∷ []))) row
    ∙ ap (λ (x : ℕ). crlf ++ ((up_to (Period kind c) ++ decimal v) ++ (x ∷ []))) (sym e) in
    (h.0, (h.1, h.2, tt), more (file_text Three es) (crlf ++ (up_to (Period kind c) ++ decimal v)) _ l b cr h.3)
to-behind-period Four es l b kind c v h e =
    (h.0, (h.1, h.2, refl), more (file_text Four es) (crlf ++ (up_to (Period kind c) ++ decimal v)) _ l b (simp (append_assoc, e)) h.3)

module _ (cols : Columns) (es : List Entry) (l : List ℕ) (b : ℕ) where
  to-head : (k : ℕ) → Holds cols (Head k) es l → k < length (header_of cols) → b ≡ get_or (header_of cols) k 0 →
      Holds cols (Head (k + 1)) es (l ++ (b ∷ []))
  unfolding Holds
  to-head k h t e = (h.0, omega arith, take_next (header_of cols) k b t e ∙ ap (λ (z : List ℕ). z ++ (b ∷ [])) h.2)

  to-head-cr : (k : ℕ) → Holds cols (Head k) es l → length (header_of cols) ≤ k → b ≡ 13 → Holds cols HeadCr es (l ++ (b ∷ []))
  unfolding Holds
  to-head-cr k h t e =
      (h.0, ap (λ (x : ℕ). header_of cols ++ (x ∷ [])) (sym e) ∙ ap (λ (z : List ℕ). z ++ (b ∷ [])) (sym (take_all k (header_of cols) t) ∙ h.2))

  to_start : Holds cols HeadCr es l → b ≡ 10 → Holds cols Start es (l ++ (b ∷ []))
  unfolding Holds
  to_start h e = (
    subst (AllLawful cols) (sym h.0) tt,
    ap (λ (q : List Entry). file_text cols q ++ crlf) h.0 ∙ ap (λ (z : List ℕ). z ++ crlf) (append-nil (header_of cols))
        ∙ ap (λ (x : ℕ). header_of cols ++ (13 ∷ (x ∷ []))) (sym e) ∙ sym (append_assoc (header_of cols) (13 ∷ []) (b ∷ []))
        ∙ ap (λ (z : List ℕ). z ++ (b ∷ [])) h.1,
  )

  to-name : (kind : Kind) → Holds cols Start es l → b ≡ get_or (name_of kind) 0 0 → Holds cols (Name kind 1) es (l ++ (b ∷ []))
  unfolding Holds
  to-name Task h e = (h.0, omega arith, more (file_text cols es) crlf _ l b (ap (λ (x : ℕ). 13 ∷ (10 ∷ (x ∷ []))) (sym e)) h.1)
  to-name Handler h e = (h.0, omega arith, more (file_text cols es) crlf _ l b (ap (λ (x : ℕ). 13 ∷ (10 ∷ (x ∷ []))) (sym e)) h.1)

  to-letter : (kind : Kind) (k : ℕ) → Holds cols (Name kind k) es l → k < length (name_of kind) → b ≡ get_or (name_of kind) k 0 →
      Holds cols (Name kind (k + 1)) es (l ++ (b ∷ []))
  unfolding Holds
  to-letter kind k h t e =
      (h.0, omega arith, more (file_text cols es) (crlf ++ take k (name_of kind)) _ l b (ap (λ (z : List ℕ). crlf ++ z) (take_next (name_of kind) k b t e)) h.2)

  to-cost : (kind : Kind) (k : ℕ) → Holds cols (Name kind k) es l → length (name_of kind) ≤ k → b ≡ comma →
      Holds cols (First (Cost kind)) es (l ++ (b ∷ []))
  unfolding Holds
  to-cost kind k h t e = (
    h.0,
    tt,
    more (file_text cols es) (crlf ++ take k (name_of kind)) _ l b
        (ap (λ (z : List ℕ). crlf ++ (z ++ (comma ∷ []))) (sym (take_all k (name_of kind) t)) ∙ ap (λ (x : ℕ). crlf ++ (take k (name_of kind) ++ (x ∷ []))) (sym e)) h.2,
  )

  -- A number's first digit, and one more.
  to-digit : (place : Place) → Holds cols (First place) es l → is_digit b ≡ true → Holds cols (Digits place (b - 48)) es (l ++ (b ∷ []))
  unfolding Holds
  to-digit place h t =
      let d = digit-true b t in
      (h.0, h.1, omega (arith, d.0, d.1), more (file_text cols es) (crlf ++ up_to place) _ l b (ap (λ (z : List ℕ). crlf ++ (up_to place ++ z)) (decimal_digit b d.0 d.1)) h.2)

  to-digits : (place : Place) (v : ℕ) → Holds cols (Digits place v) es l → continues (10 ^ digits_most) v b ≡ true →
      Holds cols (Digits place (v * 10 + (b - 48))) es (l ++ (b ∷ []))
  unfolding Holds
  to-digits place v h t =
      let told = continues-true (10 ^ digits_most) v b t in
      let d = digit-true b told.0 in
      let short : Short (v * 10 + (b - 48)) = continues-below (10 ^ digits_most) v b t in
      let longer = decimal-digits v b told.1 (omega (arith, short)) d.0 d.1 in
      let row : crlf ++ (up_to place ++ decimal (v * 10 + (b - 48))) ≡ (crlf ++ (up_to place ++ decimal v)) ++ (b ∷ []) =
      ap (λ (z : List ℕ). crlf ++ (up_to place ++ z)) longer ∙ ap (λ (z : List ℕ). crlf ++ z) (sym (append_assoc (up_to place) (decimal v) (b ∷ []))) in
      (h.0, h.1, short, more (file_text cols es) (crlf ++ (up_to place ++ decimal v)) _ l b row h.3)

  -- The byte behind a number.
  to-behind : (place : Place) (v : ℕ) → Holds cols (Digits place v) es l → b ≡ behind cols place →
      Holds cols (after cols place v) es (l ++ (b ∷ []))
  unfolding Holds
  to-behind (Cost kind) v h e =
      (h.0, h.2, more (file_text cols es) (crlf ++ (up_to (Cost kind) ++ decimal v)) _ l b (simp (append_assoc, e)) h.3)
  to-behind (Period kind c) v h e = to-behind-period cols es l b kind c v h e
  to-behind (Deadline kind c p) v h e =
      let ends = subst (λ (x : Columns). EndsRow x (Number v) kind) (sym h.1.2) h.2 in
      let cr =
      ap (λ (z : List ℕ). crlf ++ (z ++ (13 ∷ []))) (sym (up-to-deadline kind c p v))
      ∙ ap (λ (x : ℕ). crlf ++ ((up_to (Deadline kind c p) ++ decimal v) ++ (x ∷ []))) (sym e) in
      (h.0, (h.1.0, h.1.1, ends), more (file_text cols es) (crlf ++ (up_to (Deadline kind c p) ++ decimal v)) _ l b cr h.3)

  -- No number at all.
  to-empty : (kind : Kind) (c p : ℕ) → Holds cols (First (Deadline kind c p)) es l → b ≡ 13 →
      Holds cols (empty_last kind c p) es (l ++ (b ∷ []))
  unfolding Holds
  to-empty Task c p h e = tt
  to-empty Handler c p h e =
      let ends = subst (λ (x : Columns). EndsRow x Empty Handler) (sym h.1.2) tt in
      let cr = ap (λ (x : ℕ). crlf ++ (up_to (Deadline Handler c p) ++ (x ∷ []))) (sym e) in
      (h.0, (h.1.0, h.1.1, ends), more (file_text cols es) (crlf ++ up_to (Deadline Handler c p)) _ l b cr h.2)

  to-emptied : (place : Place) → Holds cols (First place) es l → b ≡ 13 → Holds cols (emptied place) es (l ++ (b ∷ []))
  to-emptied (Cost kind) h e = to-broken _ _ _
  to-emptied (Period kind c) h e = to-broken _ _ _
  to-emptied (Deadline kind c p) h e = to-empty kind c p h e

  to-next-row : (kind : Kind) (c p : ℕ) (last : Last) → Holds cols (RowCr kind c p last) es l → b ≡ 10 →
      Holds cols Start (es ++ (entry kind c p last ∷ [])) (l ++ (b ∷ []))
  unfolding Holds
  to-next-row kind c p last h e = (
    lawful-next cols es (entry kind c p last) h.0 h.1,
    ap (λ (z : List ℕ). z ++ crlf) (file-text-next cols es (entry kind c p last))
        ∙ append_assoc (file_text cols es) (crlf ++ entry_text (entry kind c p last)) crlf
        ∙ more (file_text cols es) (crlf ++ (entry_text (entry kind c p last) ++ (13 ∷ []))) _ l b (line-end (entry_text (entry kind c p last)) b e) h.2,
  )

-- ---- so every step keeps it

-- What each way of a choice gives.
chosen : (t : Bool) (x y : State) (cols : Columns) (es : List Entry) (l : List ℕ) → (t ≡ true → Holds cols x es l) →
    (t ≡ false → Holds cols y es l) → Holds cols (pick t x y) es l
chosen true x y cols es l f g = f refl
chosen false x y cols es l f g = g refl

-- No row is done where none stood before a CR.
undone : (t : Bool) (cols : Columns) (st : State) (es : List Entry) (l : List ℕ) → Holds cols st es l → Holds cols st (es ++ pick t [] []) l
undone true cols st es l h = rw append-nil h
undone false cols st es l h = rw append-nil h

pub step_keeps : (cols : Columns) (st : State) (es : List Entry) (l : List ℕ) (b : ℕ) → Holds cols st es l →
    Holds cols (after_byte cols st b) (es ++ added st b) (l ++ (b ∷ []))
step_keeps cols Broken es l b h = to-broken _ _ _
step_keeps cols (Head k) es l b h = undone (eqb b 10) _ _ _ _
    (chosen _ _ _ _ _ _
    (λ t. chosen _ _ _ _ _ _ (λ e. to-head cols es l b k h (ltb-true _ _ t) (eqb-true _ _ e)) (λ e. to-broken _ _ _))
    (λ t. chosen _ _ _ _ _ _ (λ e. to-head-cr cols es l b k h (ltb-false _ _ t) (eqb-true _ _ e)) (λ e. to-broken _ _ _)))
step_keeps cols HeadCr es l b h =
    undone (eqb b 10) _ _ _ _ (chosen _ _ _ _ _ _ (λ e. to_start cols es l b h (eqb-true _ _ e)) (λ e. to-broken _ _ _))
step_keeps cols Start es l b h = undone (eqb b 10) _ _ _ _
    (chosen _ _ _ _ _ _ (λ e. to-name cols es l b Task h (eqb-true _ _ e))
    (λ n. chosen _ _ _ _ _ _ (λ e. to-name cols es l b Handler h (eqb-true _ _ e)) (λ e. to-broken _ _ _)))
step_keeps cols (Name kind k) es l b h = undone (eqb b 10) _ _ _ _
    (chosen _ _ _ _ _ _
    (λ t. chosen _ _ _ _ _ _ (λ e. to-letter cols es l b kind k h (ltb-true _ _ t) (eqb-true _ _ e)) (λ e. to-broken _ _ _))
    (λ t. chosen _ _ _ _ _ _ (λ e. to-cost cols es l b kind k h (ltb-false _ _ t) (eqb-true _ _ e)) (λ e. to-broken _ _ _)))
step_keeps cols (First place) es l b h = undone (eqb b 10) _ _ _ _
    (chosen _ _ _ _ _ _ (λ e. to-emptied cols es l b place h (eqb-true _ _ e))
    (λ n. chosen _ _ _ _ _ _ (λ t. to-digit cols es l b place h t) (λ t. to-broken _ _ _)))
step_keeps cols (Digits place v) es l b h = undone (eqb b 10) _ _ _ _
    (chosen _ _ _ _ _ _ (λ e. to-behind cols es l b place v h (eqb-true _ _ e))
    (λ n. chosen _ _ _ _ _ _ (λ t. to-digits cols es l b place v h t) (λ t. to-broken _ _ _)))
step_keeps cols (RowCr kind c p last) es l b h =
    by (λ t. Holds cols (pick t Start Broken) (es ++ pick t (entry kind c p last ∷ []) []) (l ++ (b ∷ []))) (eqb b 10)
    (λ e. to-next-row cols es l b kind c p last h (eqb-true _ _ e))
    (λ e. to-broken _ _ _)

pub holds-first : (cols : Columns) → Holds cols (Head 0) [] []
unfolding Holds
holds-first cols = (refl, omega arith, refl)

holds-from : (cols : Columns) (w : Reading) (l bs : List ℕ) → Holds cols w.st w.rows l →
    Holds cols (read_from cols w bs).st (read_from cols w bs).rows (l ++ bs)
holds-from cols w l [] h = rw append-nil h
holds-from cols w l (b ∷ bs) h =
    rw append_assoc at (holds-from cols (next cols w b) (l ++ (b ∷ [])) bs (step_keeps cols w.st w.rows l b h))

-- After any bytes the state holds of them.
pub holds : (cols : Columns) (bs : List ℕ) → Holds cols (read_over cols bs).st (read_over cols bs).rows bs
holds cols bs = holds-from cols (record { st = Head 0; rows = [] }) [] bs (holds-first cols)
