-- The reader reads through every text of the layout: behind it a line end leads to the next line, with its rows read.
use mathlib.Core.Bool.{Bool}
use mathlib.Core.List.{List, [], ◌∷◌, ◌++◌, append-nil, append_assoc}
use mathlib.Core.Path.{◌≡◌, refl, sym, ap, ◌∙◌}
use native.Mathlib.Nat.{pow-suc}
use native.Mathlib.Omega.{arith}
use Prim.Native.Nat.{ℕ, zero, suc, ◌+◌, ◌-◌, ◌*◌, ◌/◌, ◌%◌, ◌^◌, ◌<◌}
use lib.ListN.{length}
use borrow.Author.Tests.{ne_eqb}
use Rattle.demand.specs.Tests.{pick}
use Rattle.demand.specs.declared.table.Kind.{Kind}
use Rattle.demand.specs.declared.table.Kind.TheVariants.{Task, Handler}
use Rattle.layout.specs.File.{Entry, entry, digits_most, Short, header_of, name_of, last_text, entry_text, body, file_text, EndsRow, Lawful, AllLawful}
use Rattle.layout.specs.Inside.Building.{Reading, done, added, next, read_from, read_over}
use Rattle.layout.specs.Inside.Steps.{behind, after_byte}
use Rattle.layout.specs.declared.steps.Last.{Last}
use Rattle.layout.specs.declared.steps.Last.TheVariants.{NoField, Empty, Number}
use Rattle.layout.specs.declared.steps.Place.{Place}
use Rattle.layout.specs.declared.steps.Place.TheVariants.{Cost, Period, Deadline}
use Rattle.layout.specs.declared.steps.State.{State}
use Rattle.layout.specs.declared.steps.State.TheVariants.{Head, Start, First, Digits}
use Rattle.layout.specs.declared.words.Columns.{Columns}
use Rattle.layout.specs.declared.words.Columns.TheVariants.{Three, Four}
use Rattle.text.specs.Ascii.{crlf}
use Rattle.text.specs.Numbers.{last_digits, decimal, comma, field}
use Rattle.layout.proofs.Inside.Builds.{read-append}
use Rattle.text.proofs.Numbers.{few, many, digit-is, continues-is}
use Rattle.text.proofs.Tests.{by-lt}

abbrev pub at : State → List Entry → Reading
at s fs = record { st = s; rows = fs }

read_name : (cols : Columns) (kind : Kind) (fs : List Entry) (xs : List ℕ) →
    read_from cols (at Start fs) (name_of kind ++ (comma ∷ xs)) ≡ read_from cols (at (First (Cost kind)) fs) xs
read_name cols Task fs xs = simp append-nil
read_name cols Handler fs xs = simp append-nil

-- A byte that ends no line leaves the rows as they are.
stays : (cols : Columns) (f g : State) (fs : List Entry) (b : ℕ) → (b ≡ 10 → ⊥) → after_byte cols f b ≡ g → next cols (at f fs) b ≡ at g fs
stays cols f g fs b h e =
    let rows : fs ++ added f b ≡ fs = ap (λ (t : Bool). fs ++ pick t (done f) []) (ne_eqb b 10 h) ∙ append-nil fs in
    λ i. record { st = e i; rows = rows i }

no-digit-behind : (cols : Columns) (place : Place) (d : ℕ) → 48 + d ≡ behind cols place → ⊥
no-digit-behind cols (Cost kind) d e = omega arith
no-digit-behind Three (Period kind c) d e = omega arith
no-digit-behind Four (Period kind c) d e = omega arith
no-digit-behind cols (Deadline kind c p) d e = omega arith

-- A number at any place, from its first digit on.
module _ (cols : Columns) (place : Place) (fs : List Entry) where
  digit-first : (d : ℕ) → d < 10 → next cols (at (First place) fs) (48 + d) ≡ at (Digits place d) fs
  digit-first d h =
      let worth : 48 + d - 48 ≡ d = omega arith in
      stays cols (First place) (Digits place d) fs (48 + d) (λ x. omega arith)
      (simp (ne_eqb (48 + d) 13 (λ x. omega arith), digit-is (48 + d) (omega arith) (omega arith), worth))

  digit-then : (v d : ℕ) → 0 < v → v < 10 ^ digits_most / 10 → d < 10 →
      next cols (at (Digits place v) fs) (48 + d) ≡ at (Digits place (v * 10 + d)) fs
  digit-then v d p q h =
      let worth : 48 + d - 48 ≡ d = omega arith in
      let goes = continues-is (10 ^ digits_most) v (48 + d) (digit-is (48 + d) (omega arith) (omega arith)) p q in
      stays cols (Digits place v) (Digits place (v * 10 + d)) fs (48 + d) (λ x. omega arith)
      (simp (ne_eqb (48 + d) (behind cols place) (no-digit-behind cols place d), goes, worth))

  read-digits : (k n : ℕ) → n < 10 ^ suc k → Short n → read_from cols (at (First place) fs) (last_digits (suc k) n) ≡ at (Digits place n) fs
  read-digits zero n h m = ap (read_from cols (at (First place) fs)) (few zero n h) ∙ digit-first n h
  read-digits (suc k) n h m =
      by-lt (read_from cols (at (First place) fs) (last_digits (suc (suc k)) n) ≡ at (Digits place n) fs) n 10
      (λ l. ap (read_from cols (at (First place) fs)) (few (suc k) n l) ∙ digit-first n l)
      (λ l.
      let q : n < 10 ^ suc k * 10 = rw pow-suc at h in
      ap (read_from cols (at (First place) fs)) (many (suc k) n l)
      ∙ read-append cols (at (First place) fs) (last_digits (suc k) (n / 10)) ((48 + n % 10) ∷ [])
      ∙ ap (λ (w : Reading). next cols w (48 + n % 10)) (read-digits k (n / 10) (omega arith) (omega arith))
      ∙ digit-then (n / 10) (n % 10) (omega arith) (omega arith) (omega arith)
      ∙ ap (λ (x : ℕ). at (Digits place x) fs) (omega arith))

  read-decimal : (n : ℕ) → Short n → read_from cols (at (First place) fs) (decimal n) ≡ at (Digits place n) fs
  unfolding decimal
  read-decimal n h = read-digits 19 n (omega arith) h

  -- And on.
  read_number : (n : ℕ) (xs : List ℕ) → Short n →
      read_from cols (at (First place) fs) (decimal n ++ xs) ≡ read_from cols (at (Digits place n) fs) xs
  read_number n xs h = read-append cols (at (First place) fs) (decimal n) xs ∙ ap (λ (w : Reading). read_from cols w xs) (read-decimal n h)

-- As far as the period.
read-front : (cols : Columns) (kind : Kind) (c p : ℕ) (fs : List Entry) (xs : List ℕ) → Short c → Short p →
    read_from cols (at Start fs) (name_of kind ++ (field c ++ (field p ++ xs))) ≡ read_from cols (at (Digits (Period kind c) p) fs) xs
read-front cols kind c p fs xs hc hp =
    read_name cols kind fs (decimal c ++ (field p ++ xs))
    ∙ read_number cols (Cost kind) fs c (field p ++ xs) hc
    ∙ ap (λ (z : List Entry). read_from cols (at (First (Period kind c)) z) (decimal p ++ xs)) (append-nil fs)
    ∙ read_number cols (Period kind c) fs p xs hp

-- The rest of a row, and its line end.
read-last : (cols : Columns) (kind : Kind) (c p : ℕ) (last : Last) (fs : List Entry) → EndsRow cols last kind →
    read_from cols (read_from cols (at (Digits (Period kind c) p) fs) (last_text last)) crlf ≡ at Start (fs ++ (entry kind c p last ∷ []))
read-last Three kind c p NoField fs h = ap (λ (z : List Entry). at Start (z ++ (entry kind c p NoField ∷ []))) (append-nil fs)
read-last Three kind c p Empty fs h = absurd h
read-last Three kind c p (Number d) fs h = absurd h
read-last Four kind c p NoField fs h = absurd h
read-last Four Task c p Empty fs h = absurd h
read-last Four Handler c p Empty fs h =
    ap (λ (z : List Entry). at Start (z ++ (entry Handler c p Empty ∷ []))) (append-nil (fs ++ []) ∙ append-nil fs)
read-last Four kind c p (Number d) fs h =
    ap (λ (z : List Entry). read_from Four (read_from Four (at (First (Deadline kind c p)) z) (decimal d)) crlf) (append-nil fs)
    ∙ ap (λ (w : Reading). read_from Four w crlf) (read-decimal Four (Deadline kind c p) fs d h)
    ∙ ap (λ (z : List Entry). at Start (z ++ (entry kind c p (Number d) ∷ []))) (append-nil fs)

read-entry : (cols : Columns) (e : Entry) (fs : List Entry) → Lawful cols e →
    read_from cols (read_from cols (at Start fs) (entry_text e)) crlf ≡ at Start (fs ++ (e ∷ []))
read-entry cols (entry kind c p last) fs h =
    ap (λ (w : Reading). read_from cols w crlf) (read-front cols kind c p fs (last_text last) h.0 h.1)
    ∙ read-last cols kind c p last fs h.2

-- Where a line end leads to the next line with fs read, it does so behind more rows too.
read-body : (cols : Columns) (es fs : List Entry) (w : Reading) → AllLawful cols es → read_from cols w crlf ≡ at Start fs →
    read_from cols (read_from cols w (body es)) crlf ≡ at Start (fs ++ es)
read-body cols [] fs w s h = h ∙ ap (at Start) (sym (append-nil fs))
read-body cols (e ∷ es) fs w s h =
    let row = read_from cols (at Start fs) (entry_text e) in
    let through : read_from cols w (body (e ∷ es)) ≡ read_from cols row (body es) =
    read-append cols w crlf (entry_text e ++ body es)
    ∙ ap (λ (x : Reading). read_from cols x (entry_text e ++ body es)) h
    ∙ read-append cols (at Start fs) (entry_text e) (body es) in
    ap (λ (x : Reading). read_from cols x crlf) through
    ∙ read-body cols es (fs ++ (e ∷ [])) row s.1 (read-entry cols e fs s.0)
    ∙ ap (at Start) (append_assoc fs (e ∷ []) es)

pub read-text : (cols : Columns) (es : List Entry) → AllLawful cols es → read_from cols (read_over cols (file_text cols es)) crlf ≡ at Start es
read-text Three es s = read-body Three es [] (at (Head (length (header_of Three))) []) s refl
read-text Four es s = read-body Four es [] (at (Head (length (header_of Four))) []) s refl
