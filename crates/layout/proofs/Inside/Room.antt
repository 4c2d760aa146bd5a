-- 4,096 bytes say 408 rows at most, so the table has room for every row that is read.
use mathlib.Core.List.{List, [], ◌∷◌, ◌++◌, append-nil, append_assoc}
use mathlib.Core.Path.{ap}
use native.Mathlib.Omega.{arith}
use Prim.Native.Nat.{ℕ, ◌+◌, ◌-◌, ◌*◌, ◌<◌, ◌≤◌}
use lib.Dec.{eqb}
use lib.ListN.{length, length-append}
use Rattle.demand.specs.Tests.{pick}
use Rattle.demand.specs.declared.table.Kind.{Kind}
use Rattle.demand.specs.declared.table.Kind.TheVariants.{Task, Handler}
use Rattle.layout.specs.File.{rows_most, Entry, entry, header_of, name_of, last_text, entry_text, body, file_text}
use Rattle.layout.specs.Inside.Building.{Reading, done, added, next, read_from, read_over, Room}
use Rattle.layout.specs.Table.{entry_numbers, list_of, table_of}
use Rattle.layout.specs.declared.steps.Last.{Last}
use Rattle.layout.specs.declared.steps.State.{State}
use Rattle.layout.specs.declared.steps.State.TheVariants.{Broken, Head, HeadCr, Start, Name, First, Digits, RowCr}
use Rattle.layout.specs.declared.words.Columns.{Columns}
use Rattle.layout.specs.declared.words.Columns.TheVariants.{Three, Four}
use Rattle.text.specs.Ascii.{crlf}
use Rattle.text.specs.Numbers.{field}
use Rattle.layout.proofs.Inside.Standing.{Holds, step_keeps, holds-first}
use Rattle.text.proofs.Numbers.{decimal-least}
use Rattle.text.proofs.Tests.{by}

-- ---- the least bytes of a header, and of a row's line

abbrev pub header_least : ℕ
header_least = 16

abbrev pub line_least : ℕ
line_least = 10

header-least : (cols : Columns) → header_least ≤ length (header_of cols)
header-least Three = omega arith
header-least Four = omega arith

name-least : (kind : Kind) → 4 ≤ length (name_of kind)
name-least Task = omega arith
name-least Handler = omega arith

entry-least : (e : Entry) → line_least ≤ 2 + length (entry_text e)
entry-least (entry kind c p last) =
    omega (
      arith,
      length-append (name_of kind) (field c ++ (field p ++ last_text last)),
      length-append (field c) (field p ++ last_text last),
      length-append (field p) (last_text last),
      name-least kind,
      decimal-least c,
      decimal-least p,
    )

body-least : (es : List Entry) → length es * line_least ≤ length (body es)
body-least [] = omega arith
body-least (e ∷ es) = omega (arith, length-append (entry_text e) (body es), entry-least e, body-least es)

pub file-text-least : (cols : Columns) (es : List Entry) → header_least + length es * line_least ≤ length (file_text cols es)
file-text-least cols es = omega (arith, length-append (header_of cols) (body es), header-least cols, body-least es)

-- ---- and so while it is read: a row read whole has its own line end too

abbrev Roomy : List Entry → List ℕ → Type 0
Roomy es l = length es * line_least ≤ length l - (header_least + 2)

row-least : (cols : Columns) (kind : Kind) (c p : ℕ) (last : Last) (es : List Entry) (l : List ℕ) →
    Holds cols (RowCr kind c p last) es l → (length es + 1) * line_least ≤ length l + 1 - (header_least + 2)
unfolding Holds
row-least cols kind c p last es l h =
    omega (
      arith,
      ap length h.2,
      length-append (file_text cols es) (crlf ++ (entry_text (entry kind c p last) ++ (13 ∷ []))),
      length-append (entry_text (entry kind c p last)) (13 ∷ []),
      entry-least (entry kind c p last),
      file-text-least cols es,
    )

-- With the row that is done at st.
roomy-done : (cols : Columns) (st : State) (es : List Entry) (l : List ℕ) → Holds cols st es l → Roomy es l →
    (length es + length (done st)) * line_least ≤ length l + 1 - (header_least + 2)
roomy-done cols Broken es l h m = omega arith
roomy-done cols (Head k) es l h m = omega arith
roomy-done cols HeadCr es l h m = omega arith
roomy-done cols Start es l h m = omega arith
roomy-done cols (Name kind k) es l h m = omega arith
roomy-done cols (First place) es l h m = omega arith
roomy-done cols (Digits place v) es l h m = omega arith
roomy-done cols (RowCr kind c p last) es l h m = row-least cols kind c p last es l h

roomy-step : (cols : Columns) (st : State) (es : List Entry) (l : List ℕ) (b : ℕ) → Holds cols st es l → Roomy es l →
    Roomy (es ++ added st b) (l ++ (b ∷ []))
roomy-step cols st es l b h m =
    by (λ t. Roomy (es ++ pick t (done st) []) (l ++ (b ∷ []))) (eqb b 10)
    (λ e. omega (arith, length-append es (done st), length-append l (b ∷ []), roomy-done cols st es l h m))
    (λ e. rw append-nil (omega (arith, length-append l (b ∷ []))))

roomy-from : (cols : Columns) (w : Reading) (l bs : List ℕ) → Holds cols w.st w.rows l → Roomy w.rows l →
    Roomy (read_from cols w bs).rows (l ++ bs)
roomy-from cols w l [] h m = rw append-nil m
roomy-from cols w l (b ∷ bs) h m =
    rw append_assoc at
    (roomy-from cols (next cols w b) (l ++ (b ∷ [])) bs (step_keeps cols w.st w.rows l b h) (roomy-step cols w.st w.rows l b h m))

pub read-most : (cols : Columns) (bs : List ℕ) → length (read_over cols bs).rows * line_least ≤ length bs - (header_least + 2)
read-most cols bs = roomy-from cols (record { st = Head 0; rows = [] }) [] bs (holds-first cols) (omega arith)

-- ---- three numbers at most for each row

entry-most : (e : Entry) → length (entry_numbers Task e) + length (entry_numbers Handler e) ≤ 3
entry-most (entry Task c p last) = omega arith
entry-most (entry Handler c p last) = omega arith

pub lists-most : (es : List Entry) → length (list_of Task es) + length (list_of Handler es) ≤ 3 * length es
lists-most [] = omega arith
lists-most (e ∷ es) =
    omega (
      arith,
      length-append (entry_numbers Task e) (list_of Task es),
      length-append (entry_numbers Handler e) (list_of Handler es),
      entry-most e,
      lists-most es,
    )

pub room : (es : List Entry) → length es < rows_most → Room (table_of es)
room es h = omega (arith, lists-most es)
