-- The table that the reader builds is that of the rows read whole.
use mathlib.Core.Bool.{Bool, true, false, ◌||◌}
use mathlib.Core.List.{List, [], ◌∷◌, ◌++◌, append-nil, append_assoc}
use mathlib.Core.Path.{◌≡◌, refl, sym, ap, ◌∙◌}
use native.Mathlib.Numerals.{add-one}
use native.Mathlib.Omega.{arith}
use Prim.Native.Nat.{ℕ, ◌+◌, ◌<◌, ◌≤◌}
use borrow.Author.Tests.{lt-ltb, le-ltb}
use lib.ListN.{length, take, get_or, length-take}
use lib.Seq.{take-suc, take_all}
use Rattle.demand.specs.Tests.{pick}
use Rattle.demand.specs.declared.table.Kind.{Kind}
use Rattle.demand.specs.declared.table.Kind.TheVariants.{Task, Handler}
use Rattle.layout.specs.File.{file_most, rows_most, Entry}
use Rattle.std.specs.Prelude.{Option, Some, None, Result, Ok, Err}
use Rattle.demand.specs.declared.refusal.Refusal.{Refusal}
use Rattle.demand.specs.declared.refusal.Refusal.TheVariants.{FileMalformed}
use Rattle.layout.specs.Inside.Building.{Room, pushed, grown, fed, table_at_end, added, Reading, next, read_from, read_over, rows_at_end, outcome}
use Rattle.layout.specs.Inside.Steps.{after_byte, is_start, columns_of}
use Rattle.layout.specs.Table.{entry_numbers, list_of, misplaced_in, misplaced, table_of}
use Rattle.layout.specs.declared.reader.Table.{Table}
use Rattle.layout.specs.declared.steps.State.{State}
use Rattle.layout.specs.declared.steps.State.TheVariants.{Head}
use Rattle.layout.specs.declared.words.Columns.{Columns}
use Rattle.text.specs.Ascii.{crlf}
use Rattle.layout.proofs.Inside.Room.{read-most, room}
use Rattle.text.proofs.Tests.{by}

-- ---- one row more

list-next : (kind : Kind) (es : List Entry) (e : Entry) → list_of kind (es ++ (e ∷ [])) ≡ list_of kind es ++ entry_numbers kind e
list-next kind [] e = append-nil (entry_numbers kind e)
list-next kind (x ∷ es) e =
    ap (λ (z : List ℕ). entry_numbers kind x ++ z) (list-next kind es e)
    ∙ sym (append_assoc (entry_numbers kind x) (list_of kind es) (entry_numbers kind e))

either_way : (a b c : Bool) → a || (b || c) ≡ b || (a || c)
either_way true true c = refl
either_way true false c = refl
either_way false b c = refl

misplaced-next : (es : List Entry) (e : Entry) → misplaced (es ++ (e ∷ [])) ≡ misplaced_in e || misplaced es
misplaced-next [] e = refl
misplaced-next (x ∷ es) e =
    ap (λ (z : Bool). misplaced_in x || z) (misplaced-next es e) ∙ either_way (misplaced_in x) (misplaced_in e) (misplaced es)

pushed-next : (es : List Entry) (e : Entry) → pushed (table_of es) e ≡ table_of (es ++ (e ∷ []))
pushed-next es e =
    λ i. record {
      misplaced = sym (misplaced-next es e) i;
      tasks = sym (list-next Task es e) i;
      handlers = sym (list-next Handler es e) i;
    }

grown-next : (es fs : List Entry) → grown (table_of es) fs ≡ table_of (es ++ fs)
grown-next es [] = ap table_of (sym (append-nil es))
grown-next es (e ∷ fs) =
    ap (λ (t : Table). grown t fs) (pushed-next es e) ∙ grown-next (es ++ (e ∷ [])) fs ∙ ap table_of (append_assoc es (e ∷ []) fs)

-- ---- one byte more, and the end

-- What an outcome comes to as a table.
abbrev pub table_for : Option (List Entry) → Result Table Refusal
table_for None = Err FileMalformed
table_for (Some es) = Ok (table_of es)

table-at-end : (cols : Columns) (w : Reading) → table_at_end cols (table_of w.rows) w.st ≡ table_for (rows_at_end cols w)
table-at-end cols w =
    let cr = after_byte cols w.st 13 in
    by (λ t. pick t (Ok (fed (table_of w.rows) (after_byte cols w.st 13) 10)) (pick (is_start w.st) (Ok (table_of w.rows)) (Err FileMalformed))
    ≡ table_for (pick t (Some (read_from cols w crlf).rows) (pick (is_start w.st) (Some w.rows) None)))
    (is_start (read_from cols w crlf).st)
    (λ e. ap Ok (grown-next w.rows (added cr 10)
    ∙ ap (λ (z : List Entry). table_of (z ++ added cr 10)) (sym (append-nil w.rows))))
    (λ e. by (λ t. pick t (Ok (table_of w.rows)) (Err FileMalformed) ≡ table_for (pick t (Some w.rows) None)) (is_start w.st) (λ _. refl) (λ _. refl))

-- From the two steps of a CRLF: the last line lacked it, or did not.
module _ (cols : Columns) (t : Table) (r : Result Table Refusal) (st cr lf : State) (first : cr ≡ after_byte cols st 13) (then : lf ≡ after_byte cols cr 10) where
  at-end : is_start (after_byte cols (after_byte cols st 13) 10) ≡ is_start lf
  at-end = sym (ap is_start (then ∙ ap (λ (s : State). after_byte cols s 10) first))

  pub table-at-end-short : is_start lf ≡ true → r ≡ Ok (fed t cr 10) → r ≡ table_at_end cols t st
  table-at-end-short e f =
      f ∙ ap (λ (s : State). Ok (fed t s 10)) first
      ∙ sym (ap (λ (b : Bool). pick b (Ok (fed t (after_byte cols st 13) 10)) (pick (is_start st) (Ok t) (Err FileMalformed))) (at-end ∙ e))

  pub table-at-end-full : is_start lf ≡ false → r ≡ pick (is_start st) (Ok t) (Err FileMalformed) → r ≡ table_at_end cols t st
  table-at-end-full e f =
      f ∙ sym (ap (λ (b : Bool). pick b (Ok (fed t (after_byte cols st 13) 10)) (pick (is_start st) (Ok t) (Err FileMalformed))) (at-end ∙ e))

-- ---- the reader's loop: before the byte at i it stands where the reading over the first i bytes does

pub read-append : (cols : Columns) (w : Reading) (xs ys : List ℕ) → read_from cols w (xs ++ ys) ≡ read_from cols (read_from cols w xs) ys
read-append cols w [] ys = refl
read-append cols w (x ∷ xs) ys = read-append cols (next cols w x) xs ys

read_take : (cols : Columns) (bs : List ℕ) (i : ℕ) → i < length bs →
    read_over cols (take (i + 1) bs) ≡ next cols (read_over cols (take i bs)) (get_or bs i 0)
read_take cols bs i h =
    ap (λ (n : ℕ). read_over cols (take n bs)) (add-one i) ∙ ap (read_over cols) (take-suc bs i 0 h)
    ∙ read-append cols (record { st = Head 0; rows = [] }) (take i bs) (get_or bs i 0 ∷ [])

module _ (cols : Columns) (bs : List ℕ) (small : length bs ≤ file_most) where
  take-most : (i : ℕ) → length (read_over cols (take i bs)).rows < rows_most
  take-most i = omega (arith, read-most cols (take i bs), length-take i bs)

  pub loop-room : (i : ℕ) (t : Table) → t ≡ table_of (read_over cols (take i bs)).rows → Room t
  loop-room i t e = rw e (room (read_over cols (take i bs)).rows (take-most i))

  pub loop-state : (i : ℕ) (st : State) → i < length bs → st ≡ (read_over cols (take i bs)).st →
      after_byte cols st (get_or bs i 0) ≡ (read_over cols (take (i + 1) bs)).st
  loop-state i st h e = ap (λ (s : State). after_byte cols s (get_or bs i 0)) e ∙ sym (ap (λ (w : Reading). w.st) (read_take cols bs i h))

  pub loop-table : (i : ℕ) (t : Table) (st : State) → i < length bs → st ≡ (read_over cols (take i bs)).st →
      t ≡ table_of (read_over cols (take i bs)).rows → fed t st (get_or bs i 0) ≡ table_of (read_over cols (take (i + 1) bs)).rows
  loop-table i t st h e f =
      let before = read_over cols (take i bs) in
      let after : (read_over cols (take (i + 1) bs)).rows ≡ before.rows ++ added before.st (get_or bs i 0) = ap (λ (w : Reading). w.rows) (read_take cols bs i h) in
      ap (λ (s : State). fed t s (get_or bs i 0)) e ∙ ap (λ (x : Table). fed x before.st (get_or bs i 0)) f
      ∙ grown-next before.rows (added before.st (get_or bs i 0))
      ∙ sym (ap table_of after)

  pub loop-ends : (i : ℕ) (t : Table) (st : State) → cols ≡ columns_of bs → length bs ≤ i → st ≡ (read_over cols (take i bs)).st →
      t ≡ table_of (read_over cols (take i bs)).rows → table_at_end cols t st ≡ table_for (outcome bs)
  loop-ends i t st told h e f =
      ap (λ (s : State). table_at_end cols t s) e ∙ ap (λ (x : Table). table_at_end cols x (read_over cols (take i bs)).st) f
      ∙ ap (λ (x : List ℕ). table_at_end cols (table_of (read_over cols x).rows) (read_over cols x).st) (take_all i bs h)
      ∙ table-at-end cols (read_over cols bs)
      ∙ ap (λ (x : Columns). table_for (rows_at_end x (read_over x bs))) told
      ∙ sym (ap (λ (b : Bool). table_for (pick b None (rows_at_end (columns_of bs) (read_over (columns_of bs) bs)))) (le-ltb file_most (length bs) small))

pub over-long : (bs : List ℕ) → file_most < length bs → Err FileMalformed ≡ table_for (outcome bs)
over-long bs h =
    sym (ap (λ (b : Bool). table_for (pick b None (rows_at_end (columns_of bs) (read_over (columns_of bs) bs)))) (lt-ltb file_most (length bs) h))
