-- The whole: from the bytes of a file to the bytes of its sheet (01, "File and printed line" and "Numbered refusals"; 02, M-101).
--   misplaced_refusal t h  == the refusal of a table with a handler that has a deadline: its own, 1, 2 or 3, or else 13
--   TableFigures m t h g  g are the figures of the table t, h: that refusal's where m says that a handler has a deadline,
--                         else the verdict's
--   FileFigures bs g      g are the figures of the file bs: those of the table that it says; 12 comes before all
--   output_of g            == what is written of the figures g: their two lines, and the refusal
--   SheetSays bs out      out is what is written of the file bs
--   OneSheet              a file has one output and no other: a statement about SheetSays
use Rattle.std.specs.Prelude.{Bool, true, false, List, ◌⊎◌, ◌≡◌, ℕ, eqb}
use Rattle.demand.specs.Refusals.{table_refusal}
use Rattle.demand.specs.Tests.{pick}
use Rattle.demand.specs.declared.table.Kind.TheVariants.{Task, Handler}
use Rattle.layout.specs.File.{Entry, FileSays, SaysNothing}
use Rattle.layout.specs.Table.{list_of, misplaced}
use Rattle.sheet.specs.Printed.{printed}
use Rattle.sheet.specs.declared.Output.{Output}
use Rattle.text.specs.Reasons.{reason}
use Rattle.verdict.specs.Promise.{Figures, refusal_of, Says}

-- 13: a handler has a deadline; it comes after 3
abbrev pub misplaced_refusal : List ℕ → List ℕ → ℕ
misplaced_refusal t h = pick (eqb (table_refusal t h) 0) 13 (table_refusal t h)

unfoldable pub TableFigures : Bool → List ℕ → List ℕ → Figures → Type 0
TableFigures true t h g = g ≡ refusal_of (misplaced_refusal t h)
TableFigures false t h g = Says t h g

abbrev pub FileFigures : List ℕ → Figures → Type 0
FileFigures bs g =
    ((es : List Entry) × FileSays bs es × TableFigures (misplaced es) (list_of Task es) (list_of Handler es) g)
    ⊎ (SaysNothing bs × (g ≡ refusal_of 12))

abbrev pub output_of : Figures → Output
output_of g = record { text = printed g; refusal = reason g.code }

pub record SheetSays (bs : List ℕ) (out : Output) : Type 0 where
  pub sheet : Figures
  pub figures : FileFigures bs sheet
  pub written : out ≡ output_of sheet

abbrev pub OneSheet : Type 0
OneSheet = (bs : List ℕ) (a b : Output) → SheetSays bs a → SheetSays bs b → a ≡ b
