-- The whole: from the bytes of a table file, those of a schedule file and a span to the printed lines (02, M-110).
--   broken_refusal t h          == the refusal where the schedule file breaks the layout: the table's own, or else 16
--   ScheduleFigures t h bs L g   g are the figures of the schedule file bs: what `judge` promises of the segments that it says
--   TableFigures m t h bs L g    and, where m says that a handler has a deadline, 13, unless a lower number applies
--   FileFigures tb bs L g        and of the table that the file tb says; 12 comes before all
--   output_of g                 == what is written of the figures g: their two lines, and the refusal
--   JudgedSays tb bs L out     out is what is written of the two files and the span
--   OneJudgement               they have one output and no other: a statement about JudgedSays
use Rattle.std.specs.Prelude.{Bool, true, false, List, ◌⊎◌, ◌≡◌, ℕ, eqb}
use Rattle.demand.specs.Tests.{pick}
use Rattle.demand.specs.declared.table.Kind.TheVariants.{Task, Handler}
use Rattle.layout.specs.File as table
use Rattle.layout.specs.Refusals.{refusal_in}
use Rattle.layout.specs.Table.{list_of, misplaced}
use Rattle.schedule_file.specs.File.{Entry, FileSays, SaysNothing}
use Rattle.schedule_file.specs.Schedule.{numbers_of}
use Rattle.schedule_sheet.specs.Printed.{printed}
use Rattle.schedule_sheet.specs.declared.Output.{Output}
use Rattle.segments.specs.Promise.{Figures, refusal_of, Says}
use Rattle.text.specs.Reasons.{reason}
use Rattle.verdict.specs.Promise.{verdict_refusal}

abbrev pub broken_refusal : List ℕ → List ℕ → ℕ
broken_refusal t h = pick (eqb (verdict_refusal t h) 0) 16 (verdict_refusal t h)

unfoldable pub ScheduleFigures : List ℕ → List ℕ → List ℕ → ℕ → Figures → Type 0
ScheduleFigures t h bs L g =
    ((es : List Entry) × FileSays bs es × Says t h (numbers_of es) L g) ⊎ (SaysNothing bs × (g ≡ refusal_of (broken_refusal t h)))

unfoldable pub TableFigures : Bool → List ℕ → List ℕ → List ℕ → ℕ → Figures → Type 0
TableFigures true t h bs L g = g ≡ refusal_of (refusal_in true t h)
TableFigures false t h bs L g = ScheduleFigures t h bs L g

abbrev pub FileFigures : List ℕ → List ℕ → ℕ → Figures → Type 0
FileFigures tb bs L g =
    ((es : List table.Entry) × table.FileSays tb es × TableFigures (misplaced es) (list_of Task es) (list_of Handler es) bs L g)
    ⊎ (table.SaysNothing tb × (g ≡ refusal_of 12))

abbrev pub output_of : Figures → Output
output_of g = record { text = printed g; refusal = reason g.code }

pub record JudgedSays (tb bs : List ℕ) (L : ℕ) (out : Output) : Type 0 where
  pub told : Figures
  pub figures : FileFigures tb bs L told
  pub written : out ≡ output_of told

abbrev pub OneJudgement : Type 0
OneJudgement = (tb bs : List ℕ) (L : ℕ) (a b : Output) → JudgedSays tb bs L a → JudgedSays tb bs L b → a ≡ b
