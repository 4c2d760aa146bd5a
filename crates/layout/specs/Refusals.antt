-- The refusal of a table as a file says it (01, "Numbered refusals"; 02, M-101). A file that breaks the layout is 12, before all.
--   refusal_in misplaced t h   == 1, 2, 3 or 13, the first that applies in this order, where a handler with a deadline is 13 too
--   Misplaced r o          o is the refusal of the table of r, where a handler of it has a deadline
--   Said bs es             the file bs says the rows es, and no handler of them has a deadline
--   Misplaces bs e         it says rows where one has, and e is the refusal of that
--   TableIn bs r           r is the answer to the file bs: the table of the rows that it says, or its refusal
use Rattle.std.specs.Prelude.{Bool, true, false, ◌&&◌, List, ◌⊎◌, ◌≡◌, ℕ, eqb, Result, Ok, Err, Option, Some, None}
use Rattle.demand.specs.Numbered.{number_of}
use Rattle.demand.specs.Refusals.{table_refusal}
use Rattle.demand.specs.Tests.{pick}
use Rattle.demand.specs.declared.refusal.Refusal.{Refusal}
use Rattle.demand.specs.declared.refusal.Refusal.TheVariants.{FileMalformed}
use Rattle.demand.specs.declared.table.Kind.TheVariants.{Task, Handler}
use Rattle.layout.specs.File.{Entry, FileSays, SaysNothing}
use Rattle.layout.specs.Table.{list_of, misplaced, table_of}
use Rattle.layout.specs.declared.reader.Table.{Table}

-- `misplaced` says whether a handler has a deadline
abbrev pub refusal_in : Bool → List ℕ → List ℕ → ℕ
refusal_in misplaced t h = pick (misplaced && eqb (table_refusal t h) 0) 13 (table_refusal t h)

pub record Said (bs : List ℕ) (es : List Entry) : Type 0 where
  pub says : FileSays bs es
  pub placed : misplaced es ≡ false

pub record Misplaces (bs : List ℕ) (e : Refusal) : Type 0 where
  pub rows : List Entry
  pub says : FileSays bs rows
  pub placed : misplaced rows ≡ true
  pub number : number_of e ≡ refusal_in true (list_of Task rows) (list_of Handler rows)

unfoldable pub TableIn : List ℕ → Result Table Refusal → Type 0
TableIn bs (Ok t) = (es : List Entry) × Said bs es × (t ≡ table_of es)
TableIn bs (Err e) = Misplaces bs e ⊎ (SaysNothing bs × (e ≡ FileMalformed))

unfoldable pub Misplaced : Result Table Refusal → Option Refusal → Type 0
Misplaced (Ok t) (Some e) = (t.misplaced ≡ true) × (number_of e ≡ refusal_in true t.tasks t.handlers)
Misplaced (Ok t) None = t.misplaced ≡ false
Misplaced (Err e) (Some f) = ⊥
Misplaced (Err e) None = Unit {0}
