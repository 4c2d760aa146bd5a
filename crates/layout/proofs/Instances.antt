-- Kinds may be mixed, and each keeps its order (01, "File and printed line"): no sheet shows the order of rows, so it is said here in numbers.
--   mixed_file   == a file of handlers 5/6 and 7/8 and tasks 1/20 with deadline 2 and 3/4 with deadline 4, by turns
use mathlib.Core.Bool.{false}
use mathlib.Core.List.{List, [], ◌∷◌, ◌++◌}
use mathlib.Core.Logic.{inl, inr}
use mathlib.Core.Path.{◌≡◌, refl}
use native.Mathlib.Omega.{arith}
use Prim.Native.Nat.{ℕ}
use Rattle.demand.specs.declared.table.Kind.TheVariants.{Task, Handler}
use Rattle.layout.specs.File.{Entry, entry, FileSays}
use Rattle.std.specs.Prelude.{Result, Ok}
use Rattle.demand.specs.declared.refusal.Refusal.{Refusal}
use Rattle.layout.specs.Table.{ReadSays, table_of}
use Rattle.layout.specs.declared.reader.Table.{Table}
use Rattle.layout.specs.declared.steps.Last.TheVariants.{Empty, Number}
use Rattle.layout.specs.declared.words.Columns.TheVariants.{Four}
use Rattle.text.specs.Ascii.{ascii, crlf}
use Rattle.text.specs.Numbers.{decimal}
use Rattle.layout.proofs.Table.{read-unique}

abbrev pub mixed_file : List ℕ
mixed_file =
    ascii "kind,cost,period,deadline" ++ crlf
    ++ ascii "handler,5,6," ++ crlf
    ++ ascii "task,1,20,2" ++ crlf
    ++ ascii "handler,7,8," ++ crlf
    ++ ascii "task,3,4,4" ++ crlf

abbrev rows : List Entry
rows = entry Handler 5 6 Empty ∷ entry Task 1 20 (Number 2) ∷ entry Handler 7 8 Empty ∷ entry Task 3 4 (Number 4) ∷ []

says : FileSays mixed_file rows
unfolding decimal
says = record {
  cols = Four;
  small = omega arith;
  lawful = ((omega arith, omega arith, tt), ((omega arith, omega arith, omega arith), ((omega arith, omega arith, tt), ((omega arith, omega arith, omega arith), tt))));
  written = inr refl;
}

only : (r : Result Table Refusal) → ReadSays mixed_file r → r ≡ Ok (table_of rows)
unfolding ReadSays
only r read = read-unique mixed_file r (Ok (table_of rows)) read (inl (rows, says, refl))

-- The two lists of what is read.
pub tasks-in-order : (r : Result Table Refusal) → ReadSays mixed_file r
    → (t : Table) × (r ≡ Ok t) × (t.tasks ≡ 1 ∷ 20 ∷ 2 ∷ 3 ∷ 4 ∷ 4 ∷ [])
tasks-in-order r read = (table_of rows, only r read, refl)

pub handlers-in-order : (r : Result Table Refusal) → ReadSays mixed_file r
    → (t : Table) × (r ≡ Ok t) × (t.handlers ≡ 5 ∷ 6 ∷ 7 ∷ 8 ∷ [])
handlers-in-order r read = (table_of rows, only r read, refl)

-- It is read, and no handler of it has a deadline.
pub is_read : (r : Result Table Refusal) → ReadSays mixed_file r → (t : Table) × (r ≡ Ok t) × (t.misplaced ≡ false)
is_read r read = (table_of rows, only r read, refl)
