-- The reader reads through every text of the layout: behind it a line end leads to the next line, with its rows read.
use mathlib.Core.Bool.{Bool}
use mathlib.Core.List.{List, [], ◌∷◌, ◌++◌, append-nil, append_assoc}
use mathlib.Core.Path.{◌≡◌, refl, sym, ap, ◌∙◌}
use native.Mathlib.Nat.{pow-suc}
use native.Mathlib.Omega.{arith}
use Prim.Native.Nat.{ℕ, zero, suc, ◌+◌, ◌-◌, ◌*◌, ◌/◌, ◌%◌, ◌^◌, ◌<◌}
use lib.ListN.{length}
use borrow.Author.Tests.{ne_eqb}
use Rattle.demand.specs.Tests.{pick}
use Rattle.demand.specs.declared.table.Kind.{Kind}
use Rattle.demand.specs.declared.table.Kind.TheVariants.{Task, Handler}
use Rattle.schedule_file.specs.File.{Entry, entry, digits_most, Short, header, letter_of, entry_text, body, file_text, Lawful, AllLawful}
use Rattle.schedule_file.specs.Inside.Building.{Reading, done, added, next, read_from, read_over}
use Rattle.schedule_file.specs.Inside.Steps.{behind, after_byte}
use Rattle.schedule_file.specs.declared.steps.Place.{Place}
use Rattle.schedule_file.specs.declared.steps.Place.TheVariants.{Row, From, To}
use Rattle.schedule_file.specs.declared.steps.State.{State}
use Rattle.schedule_file.specs.declared.steps.State.TheVariants.{Head, Start, First, Digits}
use Rattle.text.specs.Ascii.{crlf}
use Rattle.text.specs.Numbers.{last_digits, decimal, field}
use Rattle.text.proofs.Numbers.{few, many, digit-is, continues-is}
use Rattle.text.proofs.Tests.{by-lt}

-- Bytes in two parts.
pub read-append : (w : Reading) (xs ys : List ℕ) → read_from w (xs ++ ys) ≡ read_from (read_from w xs) ys
read-append w [] ys = refl
read-append w (x ∷ xs) ys = read-append (next w x) xs ys

abbrev pub at : State → List Entry → Reading
at s fs = record { st = s; rows = fs }

read-letter : (kind : Kind) (fs : List Entry) (xs : List ℕ)
    → read_from (at Start fs) (letter_of kind ∷ xs) ≡ read_from (at (First (Row kind)) fs) xs
read-letter Task fs xs = simp append-nil
read-letter Handler fs xs = simp append-nil

-- A byte that ends no line leaves the rows as they are.
stays : (f g : State) (fs : List Entry) (b : ℕ) → (b ≡ 10 → ⊥) → after_byte f b ≡ g → next (at f fs) b ≡ at g fs
stays f g fs b h e =
    let rows : fs ++ added f b ≡ fs = ap (λ (t : Bool). fs ++ pick t (done f) []) (ne_eqb b 10 h) ∙ append-nil fs in
    λ i. record { st = e i; rows = rows i }

no-digit-behind : (place : Place) (d : ℕ) → 48 + d ≡ behind place → ⊥
no-digit-behind (Row kind) d e = omega arith
no-digit-behind (From kind row) d e = omega arith
no-digit-behind (To kind row from) d e = omega arith

-- A number at any place, from its first digit on.
module _ (place : Place) (fs : List Entry) where
  digit-first : (d : ℕ) → d < 10 → next (at (First place) fs) (48 + d) ≡ at (Digits place d) fs
  digit-first d h =
      let worth : 48 + d - 48 ≡ d = omega arith in
      stays (First place) (Digits place d) fs (48 + d) (λ x. omega arith) (simp (digit-is (48 + d) (omega arith) (omega arith), worth))

  digit-then : (v d : ℕ) → 0 < v → v < 10 ^ digits_most / 10 → d < 10
      → next (at (Digits place v) fs) (48 + d) ≡ at (Digits place (v * 10 + d)) fs
  digit-then v d p q h =
      let worth : 48 + d - 48 ≡ d = omega arith in
      let goes = continues-is (10 ^ digits_most) v (48 + d) (digit-is (48 + d) (omega arith) (omega arith)) p q in
      stays (Digits place v) (Digits place (v * 10 + d)) fs (48 + d) (λ x. omega arith)
      (simp (ne_eqb (48 + d) (behind place) (no-digit-behind place d), goes, worth))

  read-digits : (k n : ℕ) → n < 10 ^ suc k → Short n → read_from (at (First place) fs) (last_digits (suc k) n) ≡ at (Digits place n) fs
  read-digits zero n h m = ap (read_from (at (First place) fs)) (few zero n h) ∙ digit-first n h
  read-digits (suc k) n h m =
      by-lt (read_from (at (First place) fs) (last_digits (suc (suc k)) n) ≡ at (Digits place n) fs) n 10
      (λ l. ap (read_from (at (First place) fs)) (few (suc k) n l) ∙ digit-first n l)
      (λ l.
      let q : n < 10 ^ suc k * 10 = rw pow-suc at h in
      ap (read_from (at (First place) fs)) (many (suc k) n l)
      ∙ read-append (at (First place) fs) (last_digits (suc k) (n / 10)) ((48 + n % 10) ∷ [])
      ∙ ap (λ (w : Reading). next w (48 + n % 10)) (read-digits k (n / 10) (omega arith) (omega arith))
      ∙ digit-then (n / 10) (n % 10) (omega arith) (omega arith) (omega arith)
      ∙ ap (λ (x : ℕ). at (Digits place x) fs) (omega arith))

  read-decimal : (n : ℕ) → Short n → read_from (at (First place) fs) (decimal n) ≡ at (Digits place n) fs
  unfolding decimal
  read-decimal n h = read-digits 19 n (omega arith) h

  -- And on.
  read_number : (n : ℕ) (xs : List ℕ) → Short n → read_from (at (First place) fs) (decimal n ++ xs) ≡ read_from (at (Digits place n) fs) xs
  read_number n xs h = read-append (at (First place) fs) (decimal n) xs ∙ ap (λ (w : Reading). read_from w xs) (read-decimal n h)

-- A row, and its line end.
read-entry : (e : Entry) (fs : List Entry) → Lawful e → read_from (read_from (at Start fs) (entry_text e)) crlf ≡ at Start (fs ++ (e ∷ []))
read-entry (entry kind row from to) fs h =
    let front : read_from (at Start fs) (entry_text (entry kind row from to)) ≡ at (Digits (To kind row from) to) fs =
    read-letter kind fs (decimal row ++ (field from ++ field to))
    ∙ read_number (Row kind) fs row (field from ++ field to) h.0
    ∙ ap (λ (z : List Entry). read_from (at (First (From kind row)) z) (decimal from ++ field to)) (append-nil fs)
    ∙ read_number (From kind row) fs from (field to) h.1
    ∙ ap (λ (z : List Entry). read_from (at (First (To kind row from)) z) (decimal to)) (append-nil fs)
    ∙ read-decimal (To kind row from) fs to h.2 in
    ap (λ (w : Reading). read_from w crlf) front
    ∙ ap (λ (z : List Entry). at Start (z ++ (entry kind row from to ∷ []))) (append-nil fs)

-- Where a line end leads to the next line with fs read, it does so behind more rows too.
read-body : (es fs : List Entry) (w : Reading) → AllLawful es → read_from w crlf ≡ at Start fs
    → read_from (read_from w (body es)) crlf ≡ at Start (fs ++ es)
read-body [] fs w s h = h ∙ ap (at Start) (sym (append-nil fs))
read-body (e ∷ es) fs w s h =
    let row = read_from (at Start fs) (entry_text e) in
    let through : read_from w (body (e ∷ es)) ≡ read_from row (body es) =
    read-append w crlf (entry_text e ++ body es)
    ∙ ap (λ (x : Reading). read_from x (entry_text e ++ body es)) h
    ∙ read-append (at Start fs) (entry_text e) (body es) in
    ap (λ (x : Reading). read_from x crlf) through
    ∙ read-body es (fs ++ (e ∷ [])) row s.1 (read-entry e fs s.0)
    ∙ ap (at Start) (append_assoc fs (e ∷ []) es)

-- So the whole text.
pub read-text : (es : List Entry) → AllLawful es → read_from (read_over (file_text es)) crlf ≡ at Start es
read-text es s = read-body es [] (at (Head (length header)) []) s refl
