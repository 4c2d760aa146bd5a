-- Where the reader stands says what it has read, whichever way a step goes.
--   Holds st values gs l    at st, with these numbers and the guards gs read whole, the bytes read so far are l
use mathlib.Core.Bool.{Bool, true, false}
use mathlib.Core.List.{List, [], ◌∷◌, ◌++◌, append-nil, append_assoc}
use mathlib.Core.Path.{◌≡◌, refl, sym, ap, subst, ◌∙◌}
use native.Mathlib.Numerals.{add-one}
use native.Mathlib.Omega.{arith}
use Prim.Native.Nat.{ℕ, suc, ◌+◌, ◌-◌, ◌*◌, ◌^◌, ◌<◌, ◌≤◌}
use borrow.Author.Tests.{ltb-true, ltb-false, lt-ltb}
use lib.Dec.{ltb}
use lib.ListN.{length, get_or, take}
use lib.Seq.{take_all, get_or-set_same}
use Rattle.demand.specs.Tests.{pick}
use Rattle.guard_file.specs.File.{digits_most, Short, header, guard_text, file_text, AllLawful}
use Rattle.guard_file.specs.Inside.Steps.{fields, word_of, given, behind, after, noted, guard_of}
use Rattle.guard_file.specs.declared.steps.State.{State}
use Rattle.guard_file.specs.declared.steps.State.TheVariants.{Broken, Head, HeadCr, Start, Name, First, Digits, RowCr}
use Rattle.guard_file.specs.declared.words.Kind.{Kind}
use Rattle.guard_file.specs.declared.words.Kind.TheVariants.{Single, Burst}
use Rattle.guards.specs.declared.Guard.{Guard}
use Rattle.text.specs.Ascii.{crlf}
use Rattle.text.specs.Numbers.{is_digit, continues, comma, field}
use Rattle.text.proofs.Numbers.{digit-true, continues-true, continues-below, decimal_digit, decimal-digits}
use Rattle.guard_file.proofs.Inside.Fields.{field_by, up_to, row-text, up-to-set, word-length, Sane, sane-set, lawful-guard, more, take_next, lawful-next, file-text-next}

-- ---- where the reader stands

abbrev front : Kind → ℕ → List ℕ → List ℕ
front kind j values = word_of kind ++ up_to kind j values

unfoldable pub Holds : State → List ℕ → List Guard → List ℕ → Type 0
Holds Broken values gs l = Unit
Holds (Head k) values gs l = Sane values × (gs ≡ []) × (k ≤ length header) × (take k header ≡ l)
Holds HeadCr values gs l = Sane values × (gs ≡ []) × (header ++ (13 ∷ []) ≡ l)
Holds Start values gs l = Sane values × AllLawful gs × (file_text gs ++ crlf ≡ l)
Holds (Name kind k) values gs l = Sane values × AllLawful gs × (k ≤ 6) × (file_text gs ++ (crlf ++ take k (word_of kind)) ≡ l)
Holds (First kind j) values gs l =
    Sane values × AllLawful gs × (j < fields) × (file_text gs ++ (crlf ++ (front kind j values ++ (comma ∷ []))) ≡ l)
Holds (Digits kind j v) values gs l =
    Sane values × AllLawful gs × (j < fields) × (given kind j ≡ true) × (get_or values j 0 ≡ v) ×
    (file_text gs ++ (crlf ++ (front kind j values ++ field v)) ≡ l)
Holds (RowCr kind) values gs l = Sane values × AllLawful gs × (file_text gs ++ (crlf ++ (front kind fields values ++ (13 ∷ []))) ≡ l)

-- ---- each way that a step can go

pub to-broken : (values : List ℕ) (gs : List Guard) (l : List ℕ) → Holds Broken values gs l
unfolding Holds
to-broken values gs l = tt

module _ (values : List ℕ) (gs : List Guard) (l : List ℕ) (b : ℕ) where
  pub to-head : (k : ℕ) → Holds (Head k) values gs l → k < length header → b ≡ get_or header k 0
      → Holds (Head (k + 1)) values gs (l ++ (b ∷ []))
  unfolding Holds
  to-head k h t e = (h.0, h.1, omega arith, take_next header k b t e ∙ ap (λ (z : List ℕ). z ++ (b ∷ [])) h.3)

  pub to-head-cr : (k : ℕ) → Holds (Head k) values gs l → length header ≤ k → b ≡ 13 → Holds HeadCr values gs (l ++ (b ∷ []))
  unfolding Holds
  to-head-cr k h t e =
      (h.0, h.1, ap (λ (x : ℕ). header ++ (x ∷ [])) (sym e) ∙ ap (λ (z : List ℕ). z ++ (b ∷ [])) (sym (take_all k header t) ∙ h.3))

  pub to_start : Holds HeadCr values gs l → b ≡ 10 → Holds Start values gs (l ++ (b ∷ []))
  unfolding Holds
  to_start h e = (
    h.0,
    subst AllLawful (sym h.1) tt,
    ap (λ (q : List Guard). file_text q ++ crlf) h.1 ∙ ap (λ (z : List ℕ). z ++ crlf) (append-nil header)
        ∙ ap (λ (x : ℕ). header ++ (13 ∷ (x ∷ []))) (sym e) ∙ sym (append_assoc header (13 ∷ []) (b ∷ []))
        ∙ ap (λ (z : List ℕ). z ++ (b ∷ [])) h.2,
  )

  pub to-name : (kind : Kind) → Holds Start values gs l → b ≡ get_or (word_of kind) 0 0 → Holds (Name kind 1) values gs (l ++ (b ∷ []))
  unfolding Holds
  to-name Single h e = (h.0, h.1, omega arith, more (file_text gs) crlf _ l b (ap (λ (x : ℕ). 13 ∷ (10 ∷ (x ∷ []))) (sym e)) h.2)
  to-name Burst h e = (h.0, h.1, omega arith, more (file_text gs) crlf _ l b (ap (λ (x : ℕ). 13 ∷ (10 ∷ (x ∷ []))) (sym e)) h.2)

  pub to-letter : (kind : Kind) (k : ℕ) → Holds (Name kind k) values gs l → k < 6 → b ≡ get_or (word_of kind) k 0
      → Holds (Name kind (k + 1)) values gs (l ++ (b ∷ []))
  unfolding Holds
  to-letter kind k h t e =
      let short : k < length (word_of kind) = omega (arith, word-length kind) in (
        h.0,
        h.1,
        omega arith,
        more (file_text gs) (crlf ++ take k (word_of kind)) _ l b
            (ap (λ (z : List ℕ). crlf ++ z) (take_next (word_of kind) k b short e)) h.3,
      )

  pub to-first : (kind : Kind) (k : ℕ) → Holds (Name kind k) values gs l → 6 ≤ k → b ≡ comma
      → Holds (First kind 0) values gs (l ++ (b ∷ []))
  unfolding Holds
  to-first kind k h t e =
      let whole : take k (word_of kind) ≡ word_of kind = take_all k (word_of kind) (omega (arith, word-length kind)) in
      let row : crlf ++ (front kind 0 values ++ (comma ∷ [])) ≡ (crlf ++ take k (word_of kind)) ++ (b ∷ []) =
      ap (λ (z : List ℕ). crlf ++ (z ++ (comma ∷ []))) (append-nil (word_of kind) ∙ sym whole)
      ∙ ap (λ (x : ℕ). crlf ++ (take k (word_of kind) ++ (x ∷ []))) (sym e) in
      (h.0, h.1, omega arith, more (file_text gs) (crlf ++ take k (word_of kind)) _ l b row h.3)

  -- The byte behind a field: the next one, or the row's end.
  pub to-after : (kind : Kind) (j : ℕ) → Sane values → AllLawful gs → j < fields → file_text gs ++ (crlf ++ front kind (suc j) values) ≡ l
      → b ≡ behind j
      → Holds (after kind j) (noted (after kind j) values) gs (l ++ (b ∷ []))
  unfolding Holds
  to-after kind j s f h text e = go (ltb j 8) refl e
    where
      behind-all : (x : ℕ) → b ≡ x → file_text gs ++ (crlf ++ (front kind (suc j) values ++ (x ∷ []))) ≡ l ++ (b ∷ [])
      behind-all x is =
          more (file_text gs) (crlf ++ front kind (suc j) values) _ l b
          (ap (λ (y : ℕ). crlf ++ (front kind (suc j) values ++ (y ∷ []))) (sym is)) text

      go : (t : Bool) → ltb j 8 ≡ t → b ≡ pick t comma 13
          → Holds (pick t (First kind (j + 1)) (RowCr kind)) (noted (pick t (First kind (j + 1)) (RowCr kind)) values) gs (l ++ (b ∷ []))
      go true t is = (
        s,
        f,
        omega (arith, ltb-true j 8 t),
        ap (λ (n : ℕ). file_text gs ++ (crlf ++ (front kind n values ++ (comma ∷ []))))
            (add-one j) ∙ behind-all comma is,
      )
      go false t is =
          let last : fields ≡ suc j = omega (arith, ltb-false j 8 t) in
          (s, f, ap (λ (n : ℕ). file_text gs ++ (crlf ++ (front kind n values ++ (13 ∷ [])))) last ∙ behind-all 13 is)

  pub to-empty : (kind : Kind) (j : ℕ) → Holds (First kind j) values gs l → given kind j ≡ false → b ≡ behind j
      → Holds (after kind j) (noted (after kind j) values) gs (l ++ (b ∷ []))
  unfolding Holds
  to-empty kind j h t e =
      let row : front kind (suc j) values ≡ front kind j values ++ (comma ∷ []) =
      ap (λ (g : Bool). word_of kind ++ (up_to kind j values ++ field_by g (get_or values j 0))) t
      ∙ sym (append_assoc (word_of kind) (up_to kind j values) (comma ∷ [])) in
      to-after kind j h.0 h.1 h.2 (ap (λ (z : List ℕ). file_text gs ++ (crlf ++ z)) row ∙ h.3) e

  pub to-behind : (kind : Kind) (j v : ℕ) → Holds (Digits kind j v) values gs l → b ≡ behind j
      → Holds (after kind j) (noted (after kind j) values) gs (l ++ (b ∷ []))
  unfolding Holds
  to-behind kind j v h e =
      let row : front kind (suc j) values ≡ front kind j values ++ field v =
      ap (λ (g : Bool). word_of kind ++ (up_to kind j values ++ field_by g (get_or values j 0))) h.3
      ∙ ap (λ (x : ℕ). word_of kind ++ (up_to kind j values ++ field x)) h.4
      ∙ sym (append_assoc (word_of kind) (up_to kind j values) (field v)) in
      to-after kind j h.0 h.1 h.2 (ap (λ (z : List ℕ). file_text gs ++ (crlf ++ z)) row ∙ h.5) e

  pub to-next-row : (kind : Kind) → Holds (RowCr kind) values gs l → b ≡ 10
      → Holds Start values (gs ++ (guard_of kind values ∷ [])) (l ++ (b ∷ []))
  unfolding Holds
  to-next-row kind h e =
      let g = guard_of kind values in
      let row : (crlf ++ guard_text g) ++ crlf ≡ (crlf ++ (front kind fields values ++ (13 ∷ []))) ++ (b ∷ []) =
      ap (λ (z : List ℕ). (crlf ++ z) ++ crlf) (sym (row-text kind values)) ∙ simp (append_assoc, e) in (
        h.0,
        lawful-next gs g h.1 (lawful-guard kind values h.0),
        ap (λ (z : List ℕ). z ++ crlf) (file-text-next gs g) ∙ append_assoc (file_text gs) (crlf ++ guard_text g) crlf
            ∙ more (file_text gs) (crlf ++ (front kind fields values ++ (13 ∷ []))) _ l b row h.2,
      )

-- A number at field j, noted.
pub to_number : (kind : Kind) (j v : ℕ) (values : List ℕ) (gs : List Guard) (l : List ℕ) → Sane values → AllLawful gs → j < fields
    → given kind j ≡ true → Short v
    → file_text gs ++ (crlf ++ (front kind j values ++ field v)) ≡ l → Holds (Digits kind j v) (noted (Digits kind j v) values) gs l
unfolding Holds
to_number kind j v values gs l s f h g few text =
    rw (lt-ltb j fields h) (
      sane-set values j v s h few,
      f,
      h,
      g,
      get_or-set_same values j v 0 (omega (arith, s.long)),
      ap (λ (z : List ℕ). file_text gs ++ (crlf ++ ((word_of kind ++ z) ++ field v))) (up-to-set kind j j v values (omega arith)) ∙ text,
    )

module _ (values : List ℕ) (gs : List Guard) (l : List ℕ) (b : ℕ) (kind : Kind) (j : ℕ) where
  -- A number's first digit, and one more.
  pub to-digit : Holds (First kind j) values gs l → given kind j ≡ true → is_digit b ≡ true
      → Holds (Digits kind j (b - 48)) (noted (Digits kind j (b - 48)) values) gs (l ++ (b ∷ []))
  unfolding Holds
  to-digit h g t =
      let d = digit-true b t in
      let row : crlf ++ (front kind j values ++ field (b - 48)) ≡ (crlf ++ (front kind j values ++ (comma ∷ []))) ++ (b ∷ []) =
      ap (λ (z : List ℕ). crlf ++ (front kind j values ++ (comma ∷ z))) (decimal_digit b d.0 d.1)
      ∙ ap (λ (z : List ℕ). crlf ++ z) (sym (append_assoc (front kind j values) (comma ∷ []) (b ∷ []))) in
      to_number kind j (b - 48) values gs (l ++ (b ∷ [])) h.0 h.1 h.2 g (omega (arith, d.0, d.1))
      (more (file_text gs) (crlf ++ (front kind j values ++ (comma ∷ []))) _ l b row h.3)

  pub to-digits : (v : ℕ) → Holds (Digits kind j v) values gs l → continues (10 ^ digits_most) v b ≡ true
      → Holds (Digits kind j (v * 10 + (b - 48))) (noted (Digits kind j (v * 10 + (b - 48))) values) gs (l ++ (b ∷ []))
  unfolding Holds
  to-digits v h t =
      let told = continues-true (10 ^ digits_most) v b t in
      let d = digit-true b told.0 in
      let short : Short (v * 10 + (b - 48)) = continues-below (10 ^ digits_most) v b t in
      let longer = decimal-digits v b told.1 (omega (arith, short)) d.0 d.1 in
      let row : crlf ++ (front kind j values ++ field (v * 10 + (b - 48))) ≡ (crlf ++ (front kind j values ++ field v)) ++ (b ∷ []) =
      ap (λ (z : List ℕ). crlf ++ (front kind j values ++ (comma ∷ z))) longer
      ∙ ap (λ (z : List ℕ). crlf ++ z) (sym (append_assoc (front kind j values) (field v) (b ∷ []))) in
      to_number kind j (v * 10 + (b - 48)) values gs (l ++ (b ∷ [])) h.0 h.1 h.2 h.3 short
      (more (file_text gs) (crlf ++ (front kind j values ++ field v)) _ l b row h.5)
