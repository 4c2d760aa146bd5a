-- The reader accepts exactly the texts of the layout, and reads what they say: a file says one list of rows at most.
use mathlib.Core.Bool.{Bool, true, false}
use mathlib.Core.List.{List, [], ◌∷◌, ◌++◌}
use mathlib.Core.Logic.{◌⊎◌, inl, inr}
use mathlib.Core.Path.{◌≡◌, refl, sym, ap, subst, ◌∙◌}
use native.Mathlib.Omega.{arith}
use Prim.Native.Nat.{ℕ, ◌+◌, ◌*◌, ◌≤◌}
use borrow.Author.Tests.{ltb-false, le-ltb}
use lib.Dec.{ltb}
use lib.ListN.{length, take, length-append}
use lib.Seq.{take-append_seam}
use Rattle.demand.specs.Tests.{pick}
use Rattle.layout.specs.File.{file_most, rows_most, Entry, file_text, AllLawful, FileSays, OneTable}
use Rattle.std.specs.Prelude.{Some, None}
use Rattle.layout.specs.Inside.Building.{Reading, read_from, read_over, rows_at_end, outcome}
use Rattle.layout.specs.Inside.Steps.{is_start, columns_of}
use Rattle.layout.specs.declared.steps.State.{State}
use Rattle.layout.specs.declared.steps.State.TheVariants.{Broken, Head, HeadCr, Start, Name, First, Digits, RowCr}
use Rattle.layout.specs.declared.words.Columns.{Columns}
use Rattle.layout.specs.declared.words.Columns.TheVariants.{Three, Four}
use Rattle.text.specs.Ascii.{crlf}
use Rattle.layout.proofs.Inside.Builds.{read-append}
use Rattle.layout.proofs.Inside.Room.{header_least, line_least, file-text-least}
use Rattle.layout.proofs.Inside.Standing.{Holds, holds}
use Rattle.layout.proofs.Inside.Texts.{at, read-text}
use Rattle.text.proofs.Tests.{by}

-- ---- what is accepted is a text

pub never : (P : Type 0) (fs : List Entry) → None ≡ Some fs → P
never P fs e =
    let z : ◌≡◌ {A = ℕ} 0 1 = cc in
    let f : ⊥ = omega arith in
    absurd f

clash : (P : Type 0) → false ≡ true → P
clash P e =
    let z : ◌≡◌ {A = ℕ} 0 1 = cc in
    let f : ⊥ = omega arith in
    absurd f

-- At the start of a line all that was read is rows and line ends.
holds-start : (cols : Columns) (st : State) (es : List Entry) (l : List ℕ) → is_start st ≡ true → Holds cols st es l →
    AllLawful cols es × (file_text cols es ++ crlf ≡ l)
unfolding Holds
holds-start cols Start es l t h = h
holds-start cols Broken es l t h = clash _ t
holds-start cols (Head k) es l t h = clash _ t
holds-start cols HeadCr es l t h = clash _ t
holds-start cols (Name kind k) es l t h = clash _ t
holds-start cols (First place) es l t h = clash _ t
holds-start cols (Digits place v) es l t h = clash _ t
holds-start cols (RowCr kind c p last) es l t h = clash _ t

-- Equal ends come off.
without_end : (xs ys zs : List ℕ) → xs ++ zs ≡ ys ++ zs → xs ≡ ys
without_end xs ys zs e =
    let same : length xs ≡ length ys = omega (arith, ap length e, length-append xs zs, length-append ys zs) in
    sym (take-append_seam xs zs) ∙ ap (take (length xs)) e ∙ ap (λ (n : ℕ). take n (ys ++ zs)) same ∙ take-append_seam ys zs

abbrev Ends : Columns → List ℕ → List Entry → Type 0
Ends cols l fs = AllLawful cols fs × ((l ≡ file_text cols fs) ⊎ (l ≡ file_text cols fs ++ crlf))

module _ (cols : Columns) (bs : List ℕ) (fs : List Entry) where
  -- The last line lacked its CRLF.
  ends-short : is_start (read_from cols (read_over cols bs) crlf).st ≡ true →
      Some (read_from cols (read_over cols bs) crlf).rows ≡ Some fs → Ends cols bs fs
  ends-short t e =
      let w = read_from cols (read_over cols bs) crlf in
      let q : w.rows ≡ fs = cc in
      let whole : Holds cols w.st w.rows (bs ++ crlf) =
      subst (λ (x : Reading). Holds cols x.st x.rows (bs ++ crlf)) (read-append cols (record { st = Head 0; rows = [] }) bs crlf) (holds cols (bs ++ crlf)) in
      let h = holds-start cols w.st w.rows (bs ++ crlf) t whole in
      (subst (AllLawful cols) q h.0, inl (sym (without_end (file_text cols w.rows) bs crlf h.1) ∙ ap (file_text cols) q))

  ends-full : is_start (read_over cols bs).st ≡ true → Some (read_over cols bs).rows ≡ Some fs → Ends cols bs fs
  ends-full t e =
      let w = read_over cols bs in
      let q : w.rows ≡ fs = cc in
      let h = holds-start cols w.st w.rows bs t (holds cols bs) in
      (subst (AllLawful cols) q h.0, inr (sym h.1 ∙ ap (λ (x : List Entry). file_text cols x ++ crlf) q))

  ends : rows_at_end cols (read_over cols bs) ≡ Some fs → Ends cols bs fs
  ends e =
      by (λ t. is_start (read_from cols (read_over cols bs) crlf).st ≡ t → pick t (Some (read_from cols (read_over cols bs) crlf).rows) (pick (is_start (read_over cols bs).st) (Some (read_over cols bs).rows) None) ≡ Some fs → Ends cols bs fs)
      (is_start (read_from cols (read_over cols bs) crlf).st)
      (λ _. λ t. λ x. ends-short t x)
      (λ _. λ _. λ y.
      by (λ t. is_start (read_over cols bs).st ≡ t → pick t (Some (read_over cols bs).rows) None ≡ Some fs → Ends cols bs fs) (is_start (read_over cols bs).st)
      (λ _. λ t. λ x. ends-full t x)
      (λ _. λ t. λ x. never _ fs x)
      refl y)
      refl e

pub sound : (bs : List ℕ) (fs : List Entry) → outcome bs ≡ Some fs → FileSays bs fs
sound bs fs e =
    let cols = columns_of bs in
    by (λ t. ltb file_most (length bs) ≡ t → pick t None (rows_at_end cols (read_over cols bs)) ≡ Some fs → FileSays bs fs) (ltb file_most (length bs))
    (λ _. λ t. λ x. never _ fs x)
    (λ _. λ t. λ x.
    let w : Ends cols bs fs = ends cols bs fs x in
    record { cols = cols; small = ltb-false _ _ t; lawful = w.0; written = w.1 })
    refl e

-- ---- a text is accepted

accepted : (cols : Columns) (bs : List ℕ) (es : List Entry) → AllLawful cols es →
    (bs ≡ file_text cols es) ⊎ (bs ≡ file_text cols es ++ crlf) → rows_at_end cols (read_over cols bs) ≡ Some es
accepted cols bs es s (inl e) =
    ap (λ (x : List ℕ). rows_at_end cols (read_over cols x)) e
    ∙ ap (λ (w : Reading). pick (is_start w.st) (Some w.rows) (pick (is_start (read_over cols (file_text cols es)).st) (Some (read_over cols (file_text cols es)).rows) None)) (read-text cols es s)
accepted cols bs es s (inr e) =
    ap (λ (x : List ℕ). rows_at_end cols (read_over cols x)) e
    ∙ ap (rows_at_end cols) (read-append cols (at (Head 0) []) (file_text cols es) crlf ∙ read-text cols es s)

-- The 17th byte of a text tells its columns.
told : (cols : Columns) (bs : List ℕ) (es : List Entry) → (bs ≡ file_text cols es) ⊎ (bs ≡ file_text cols es ++ crlf) → columns_of bs ≡ cols
told Three bs [] (inl e) = ap columns_of e
told Three bs (x ∷ es) (inl e) = ap columns_of e
told Three bs [] (inr e) = ap columns_of e
told Three bs (x ∷ es) (inr e) = ap columns_of e
told Four bs es (inl e) = ap columns_of e
told Four bs es (inr e) = ap columns_of e

pub complete : (bs : List ℕ) (es : List Entry) → FileSays bs es → outcome bs ≡ Some es
complete bs es s =
    ap (λ (t : Bool). pick t None (rows_at_end (columns_of bs) (read_over (columns_of bs) bs))) (le-ltb file_most (length bs) s.small)
    ∙ ap (λ (x : Columns). rows_at_end x (read_over x bs)) (told s.cols bs es s.written)
    ∙ accepted s.cols bs es s.lawful s.written

-- ---- so a file says one list of rows at most

pub says-unique : OneTable
says-unique bs es fs s t =
    let a : outcome bs ≡ Some es = complete bs es s in
    let b : outcome bs ≡ Some fs = complete bs fs t in
    cc

-- ---- and a file says 408 rows at most

written-least : (bs : List ℕ) (cols : Columns) (es : List Entry) → (bs ≡ file_text cols es) ⊎ (bs ≡ file_text cols es ++ crlf) →
    header_least + length es * line_least ≤ length bs
written-least bs cols es (inl e) = omega (arith, ap length e, file-text-least cols es)
written-least bs cols es (inr e) = omega (arith, ap length e, length-append (file_text cols es) crlf, file-text-least cols es)

pub says-most : (bs : List ℕ) (es : List Entry) → FileSays bs es → length es ≤ rows_most
says-most bs es s = omega (arith, written-least bs s.cols es s.written, s.small)
