-- The reader accepts exactly the texts of the layout, and reads what they say: a file says one list of rows at most.
use mathlib.Core.Bool.{Bool, true, false}
use mathlib.Core.List.{List, [], ◌++◌}
use mathlib.Core.Logic.{◌⊎◌, inl, inr}
use mathlib.Core.Path.{◌≡◌, refl, sym, ap, subst, ◌∙◌}
use native.Mathlib.Omega.{arith}
use Prim.Native.Nat.{ℕ, ◌≤◌}
use borrow.Author.Tests.{ltb-false, le-ltb}
use lib.Dec.{ltb}
use lib.ListN.{length, take, length-append}
use lib.Seq.{take-append_seam}
use Rattle.demand.specs.Tests.{pick}
use Rattle.schedule_file.specs.File.{Entry, file_text, AllLawful, FileSays, OneList}
use Rattle.std.specs.Prelude.{Option, Some, None}
use Rattle.schedule_file.specs.Inside.Building.{few_of, Reading, read_from, read_over, rows_at_end, outcome}
use Rattle.schedule_file.specs.Inside.Steps.{is_start}
use Rattle.schedule_file.specs.declared.steps.State.{State}
use Rattle.schedule_file.specs.declared.steps.State.TheVariants.{Broken, Head, HeadCr, Start, First, Digits, RowCr}
use Rattle.segments.specs.Promise.{segments_most}
use Rattle.text.specs.Ascii.{crlf}
use Rattle.schedule_file.proofs.Inside.Standing.{Holds, holds}
use Rattle.schedule_file.proofs.Inside.Texts.{at, read-append, read-text}
use Rattle.text.proofs.Tests.{by}

-- ---- what is accepted is a text

-- Nothing is no rows.
pub never : (P : Type 0) (fs : List Entry) → None ≡ Some fs → P
never P fs e =
    let z : ◌≡◌ {A = ℕ} 0 1 = cc in
    let f : ⊥ = omega arith in
    absurd f

clash : (P : Type 0) → false ≡ true → P
clash P e =
    let z : ◌≡◌ {A = ℕ} 0 1 = cc in
    let f : ⊥ = omega arith in
    absurd f

-- At the start of a line all that was read is rows and line ends.
holds-start : (st : State) (es : List Entry) (l : List ℕ) → is_start st ≡ true → Holds st es l → AllLawful es × (file_text es ++ crlf ≡ l)
unfolding Holds
holds-start Start es l t h = h
holds-start Broken es l t h = clash _ t
holds-start (Head k) es l t h = clash _ t
holds-start HeadCr es l t h = clash _ t
holds-start (First place) es l t h = clash _ t
holds-start (Digits place v) es l t h = clash _ t
holds-start (RowCr kind row from to) es l t h = clash _ t

-- Equal ends come off.
without_end : (xs ys zs : List ℕ) → xs ++ zs ≡ ys ++ zs → xs ≡ ys
without_end xs ys zs e =
    let same : length xs ≡ length ys = omega (arith, ap length e, length-append xs zs, length-append ys zs) in
    sym (take-append_seam xs zs) ∙ ap (take (length xs)) e ∙ ap (λ (n : ℕ). take n (ys ++ zs)) same ∙ take-append_seam ys zs

abbrev Ends : List ℕ → List Entry → Type 0
Ends l fs = AllLawful fs × ((l ≡ file_text fs) ⊎ (l ≡ file_text fs ++ crlf))

module _ (bs : List ℕ) (fs : List Entry) where
  -- The last line lacked its CRLF,
  ends-short : is_start (read_from (read_over bs) crlf).st ≡ true → Some (read_from (read_over bs) crlf).rows ≡ Some fs → Ends bs fs
  ends-short t e =
      let w = read_from (read_over bs) crlf in
      let q : w.rows ≡ fs = cc in
      let whole : Holds w.st w.rows (bs ++ crlf) =
      subst (λ (x : Reading). Holds x.st x.rows (bs ++ crlf)) (read-append (record { st = Head 0; rows = [] }) bs crlf)
      (holds (bs ++ crlf)) in
      let h = holds-start w.st w.rows (bs ++ crlf) t whole in
      (subst AllLawful q h.0, inl (sym (without_end (file_text w.rows) bs crlf h.1) ∙ ap file_text q))

  -- or had it.
  ends-full : is_start (read_over bs).st ≡ true → Some (read_over bs).rows ≡ Some fs → Ends bs fs
  ends-full t e =
      let w = read_over bs in
      let q : w.rows ≡ fs = cc in
      let h = holds-start w.st w.rows bs t (holds bs) in
      (subst AllLawful q h.0, inr (sym h.1 ∙ ap (λ (x : List Entry). file_text x ++ crlf) q))

  ends : rows_at_end (read_over bs) ≡ Some fs → Ends bs fs
  ends e =
      by (λ t. is_start (read_from (read_over bs) crlf).st ≡ t
      → pick t (Some (read_from (read_over bs) crlf).rows) (pick (is_start (read_over bs).st) (Some (read_over bs).rows) None) ≡ Some fs
      → Ends bs fs)
      (is_start (read_from (read_over bs) crlf).st)
      (λ _. λ t. λ x. ends-short t x)
      (λ _. λ _. λ y.
      by (λ t. is_start (read_over bs).st ≡ t → pick t (Some (read_over bs).rows) None ≡ Some fs → Ends bs fs) (is_start (read_over bs).st)
      (λ _. λ t. λ x. ends-full t x)
      (λ _. λ t. λ x. never _ fs x)
      refl y)
      refl e

-- Rows that are few are handed on.
few-Some : (o : Option (List Entry)) (fs : List Entry) → few_of o ≡ Some fs → (o ≡ Some fs) × (length fs ≤ segments_most)
few-Some None fs e = never _ fs e
few-Some (Some es) fs e = go (ltb segments_most (length es)) refl e
  where
    go : (t : Bool) → ltb segments_most (length es) ≡ t → pick t None (Some es) ≡ Some fs → (Some es ≡ Some fs) × (length fs ≤ segments_most)
    go true l f = never _ fs f
    go false l f =
        let q : es ≡ fs = cc in
        (f, subst (λ (gs : List Entry). length gs ≤ segments_most) q (ltb-false segments_most (length es) l))

-- What is accepted is a text of the layout.
pub sound : (bs : List ℕ) (fs : List Entry) → outcome bs ≡ Some fs → FileSays bs fs
sound bs fs e =
    let told = few-Some (rows_at_end (read_over bs)) fs e in
    let w = ends bs fs told.0 in
    record { few = told.1; lawful = w.0; written = w.1 }

-- ---- a text is accepted

accepted : (bs : List ℕ) (es : List Entry) → AllLawful es → (bs ≡ file_text es) ⊎ (bs ≡ file_text es ++ crlf)
    → rows_at_end (read_over bs) ≡ Some es
accepted bs es s (inl e) =
    ap (λ (x : List ℕ). rows_at_end (read_over x)) e
    ∙ ap (λ (w : Reading).
    pick (is_start w.st) (Some w.rows) (pick (is_start (read_over (file_text es)).st) (Some (read_over (file_text es)).rows) None))
    (read-text es s)
accepted bs es s (inr e) =
    ap (λ (x : List ℕ). rows_at_end (read_over x)) e ∙ ap rows_at_end (read-append (at (Head 0) []) (file_text es) crlf ∙ read-text es s)

-- And the reverse.
pub complete : (bs : List ℕ) (es : List Entry) → FileSays bs es → outcome bs ≡ Some es
complete bs es s =
    ap few_of (accepted bs es s.lawful s.written)
    ∙ ap (λ (t : Bool). pick t None (Some es)) (le-ltb segments_most (length es) s.few)

-- ---- so a file says one list of rows at most

-- So the rows are determined.
pub says-unique : OneList
says-unique bs es fs s t =
    let a : outcome bs ≡ Some es = complete bs es s in
    let b : outcome bs ≡ Some fs = complete bs fs t in
    cc
