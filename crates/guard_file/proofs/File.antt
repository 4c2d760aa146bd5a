-- The reader accepts exactly the texts of the layout, and reads what they say: a file says one list of guards at most.
use mathlib.Core.Bool.{Bool, true, false}
use mathlib.Core.List.{List, ◌++◌}
use mathlib.Core.Logic.{◌⊎◌, inl, inr}
use mathlib.Core.Path.{◌≡◌, refl, sym, ap, subst, ◌∙◌}
use native.Mathlib.Omega.{arith}
use Prim.Native.Nat.{ℕ}
use borrow.Author.Tests.{ltb-false, le-ltb}
use lib.Dec.{ltb}
use lib.ListN.{length, take, length-append}
use lib.Seq.{take-append_seam}
use Rattle.demand.specs.Tests.{pick}
use Rattle.guard_file.specs.File.{file_most, file_text, AllLawful, FileSays, OneList}
use Rattle.std.specs.Prelude.{Some, None}
use Rattle.guard_file.specs.Inside.Building.{Reading, read_from, read_over, unread, guards_at_end, outcome}
use Rattle.guard_file.specs.Inside.Steps.{is_start}
use Rattle.guard_file.specs.declared.steps.State.{State}
use Rattle.guard_file.specs.declared.steps.State.TheVariants.{Broken, Head, HeadCr, Start, Name, First, Digits, RowCr}
use Rattle.guards.specs.declared.Guard.{Guard}
use Rattle.text.specs.Ascii.{crlf}
use Rattle.guard_file.proofs.Inside.Builds.{read-append}
use Rattle.guard_file.proofs.Inside.Keeps.{holds}
use Rattle.guard_file.proofs.Inside.Standing.{Holds}
use Rattle.guard_file.proofs.Inside.Texts.{read-text}
use Rattle.text.proofs.Tests.{by}

-- ---- what is accepted is a text

pub never : (P : Type 0) (gs : List Guard) → None ≡ Some gs → P
never P gs e =
    let z : ◌≡◌ {A = ℕ} 0 1 = cc in
    let f : ⊥ = omega arith in
    absurd f

clash : (P : Type 0) → false ≡ true → P
clash P e =
    let z : ◌≡◌ {A = ℕ} 0 1 = cc in
    let f : ⊥ = omega arith in
    absurd f

-- At the start of a line all that was read is rows and line ends.
holds-start : (st : State) (values : List ℕ) (gs : List Guard) (l : List ℕ) → is_start st ≡ true → Holds st values gs l
    → AllLawful gs × (file_text gs ++ crlf ≡ l)
unfolding Holds
holds-start Start values gs l t h = (h.1, h.2)
holds-start Broken values gs l t h = clash _ t
holds-start (Head k) values gs l t h = clash _ t
holds-start HeadCr values gs l t h = clash _ t
holds-start (Name kind k) values gs l t h = clash _ t
holds-start (First kind j) values gs l t h = clash _ t
holds-start (Digits kind j v) values gs l t h = clash _ t
holds-start (RowCr kind) values gs l t h = clash _ t

-- Equal ends come off.
without_end : (xs ys zs : List ℕ) → xs ++ zs ≡ ys ++ zs → xs ≡ ys
without_end xs ys zs e =
    let same : length xs ≡ length ys = omega (arith, ap length e, length-append xs zs, length-append ys zs) in
    sym (take-append_seam xs zs) ∙ ap (take (length xs)) e ∙ ap (λ (n : ℕ). take n (ys ++ zs)) same ∙ take-append_seam ys zs

abbrev Ends : List ℕ → List Guard → Type 0
Ends l gs = AllLawful gs × ((l ≡ file_text gs) ⊎ (l ≡ file_text gs ++ crlf))

module _ (bs : List ℕ) (gs : List Guard) where
  -- The last line lacked its CRLF.
  ends-short : is_start (read_from (read_over bs) crlf).st ≡ true → Some (read_from (read_over bs) crlf).guards ≡ Some gs → Ends bs gs
  ends-short t e =
      let w = read_from (read_over bs) crlf in
      let q : w.guards ≡ gs = cc in
      let whole : Holds w.st w.values w.guards (bs ++ crlf) =
      subst (λ (x : Reading). Holds x.st x.values x.guards (bs ++ crlf)) (read-append unread bs crlf) (holds (bs ++ crlf)) in
      let h = holds-start w.st w.values w.guards (bs ++ crlf) t whole in
      (subst AllLawful q h.0, inl (sym (without_end (file_text w.guards) bs crlf h.1) ∙ ap file_text q))

  ends-full : is_start (read_over bs).st ≡ true → Some (read_over bs).guards ≡ Some gs → Ends bs gs
  ends-full t e =
      let w = read_over bs in
      let q : w.guards ≡ gs = cc in
      let h = holds-start w.st w.values w.guards bs t (holds bs) in
      (subst AllLawful q h.0, inr (sym h.1 ∙ ap (λ (x : List Guard). file_text x ++ crlf) q))

  ends : guards_at_end (read_over bs) ≡ Some gs → Ends bs gs
  ends e =
      by (λ t. is_start (read_from (read_over bs) crlf).st ≡ t
      → pick t (Some (read_from (read_over bs) crlf).guards) (pick (is_start (read_over bs).st) (Some (read_over bs).guards) None)
      ≡ Some gs → Ends bs gs)
      (is_start (read_from (read_over bs) crlf).st)
      (λ _. λ t. λ x. ends-short t x)
      (λ _. λ _. λ y.
      by (λ t. is_start (read_over bs).st ≡ t → pick t (Some (read_over bs).guards) None ≡ Some gs → Ends bs gs)
      (is_start (read_over bs).st)
      (λ _. λ t. λ x. ends-full t x)
      (λ _. λ t. λ x. never _ gs x)
      refl y)
      refl e

pub sound : (bs : List ℕ) (gs : List Guard) → outcome bs ≡ Some gs → FileSays bs gs
sound bs gs e =
    by (λ t. ltb file_most (length bs) ≡ t → pick t None (guards_at_end (read_over bs)) ≡ Some gs → FileSays bs gs)
    (ltb file_most (length bs))
    (λ _. λ t. λ x. never _ gs x)
    (λ _. λ t. λ x.
    let w : Ends bs gs = ends bs gs x in
    record { small = ltb-false _ _ t; lawful = w.0; written = w.1 })
    refl e

-- ---- a text is accepted

accepted : (bs : List ℕ) (gs : List Guard) → AllLawful gs → (bs ≡ file_text gs) ⊎ (bs ≡ file_text gs ++ crlf)
    → guards_at_end (read_over bs) ≡ Some gs
accepted bs gs s (inl e) =
    let read = read-text gs s in
    ap (λ (x : List ℕ). guards_at_end (read_over x)) e
    ∙ ap (λ (x : State). pick (is_start x) (Some (read_from (read_over (file_text gs)) crlf).guards)
    (pick (is_start (read_over (file_text gs)).st) (Some (read_over (file_text gs)).guards) None)) read.0
    ∙ ap Some read.1
accepted bs gs s (inr e) =
    let read = read-text gs s in
    let w = read_from (read_over (file_text gs)) crlf in
    ap (λ (x : List ℕ). guards_at_end (read_over x)) e
    ∙ ap guards_at_end (read-append unread (file_text gs) crlf)
    ∙ started w read.0
    ∙ ap Some read.1
  where
    -- behind a whole line nothing is lacking
    started : (w : Reading) → w.st ≡ Start → guards_at_end w ≡ Some w.guards
    started w e =
        ap (λ (x : State). guards_at_end (record { st = x; values = w.values; guards = w.guards })) e

pub complete : (bs : List ℕ) (gs : List Guard) → FileSays bs gs → outcome bs ≡ Some gs
complete bs gs s =
    ap (λ (t : Bool). pick t None (guards_at_end (read_over bs))) (le-ltb file_most (length bs) s.small)
    ∙ accepted bs gs s.lawful s.written

-- ---- so a file says one list of guards at most

pub says-unique : OneList
says-unique bs gs hs s t =
    let a : outcome bs ≡ Some gs = complete bs gs s in
    let b : outcome bs ≡ Some hs = complete bs hs t in
    cc
