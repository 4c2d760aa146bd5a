-- The whole: from the bytes of a file to the bytes of its lines (02, M-103; 01, "File and printed line").
--   page_most               == the bytes of a page: enough for the lines of 64 tasks
--   laid page at bs        == the page with the bytes bs stored from place `at` on; the rest stays
--   sheet_of m t h          == the responses of the table t, h, where m says whether a handler has a deadline, or its refusal
--   Few r                  responses are those of 64 tasks at most
--   FileSheet bs s         s is that of the file bs: 12, before all, where it breaks the layout
--   PageSays bs page page' out   of the file bs page' is what is written over page, and out its length and the refusal
--   OnePage                a file has one such outcome and no other
use Rattle.std.specs.Prelude.{Bool, List, ◌⊎◌, ◌≡◌, ℕ, ◌≤◌, length, Result, Ok, Err}
use Rattle.std.specs.Result.{result_err}
use Rattle.std.proofs.lemmas.List.Edits.{sets}
use Rattle.demand.specs.Rows.{tasks_of, handlers_of}
use Rattle.demand.specs.Limits.{tasks_most}
use Rattle.demand.specs.Numbered.{answered}
use Rattle.demand.specs.declared.refusal.Refusal.{Refusal}
use Rattle.demand.specs.declared.refusal.Refusal.TheVariants.{FileMalformed}
use Rattle.demand.specs.declared.table.Kind.TheVariants.{Task, Handler}
use Rattle.layout.specs.File.{Entry, FileSays, SaysNothing}
use Rattle.layout.specs.Refusals.{refusal_in}
use Rattle.layout.specs.Table.{list_of, misplaced}
use Rattle.priority.specs.Responses.{leasts}
use Rattle.priority_sheet.specs.Printed.{printed}
use Rattle.priority_sheet.specs.declared.Output.{Output}
use Rattle.priority_sheet.specs.declared.Responses.{Responses}

abbrev pub page_most : ℕ
page_most = 5120

abbrev pub laid : List ℕ → ℕ → List ℕ → List ℕ
laid page at bs = sets page at bs

abbrev pub sheet_of : Bool → List ℕ → List ℕ → Result Responses Refusal
sheet_of m t h = answered (refusal_in m t h) (record { least = leasts (tasks_of t) (handlers_of h); count = length (tasks_of t) })

abbrev pub FileSheet : List ℕ → Result Responses Refusal → Type 0
FileSheet bs s =
    ((es : List Entry) × FileSays bs es × (s ≡ sheet_of (misplaced es) (list_of Task es) (list_of Handler es)))
    ⊎ (SaysNothing bs × (s ≡ Err FileMalformed))

abbrev pub Few : Result Responses Refusal → Type 0
Few s = (r : Responses) → s ≡ Ok r → r.count ≤ tasks_most

-- the lines are laid over the page from its start on
pub record PageSays (bs page page' : List ℕ) (out : Output) : Type 0 where
  pub sheet : Result Responses Refusal
  pub figures : FileSheet bs sheet
  pub written : page' ≡ laid page 0 (printed sheet)
  pub counted : out.len ≡ length (printed sheet)
  pub refusal : out.refusal ≡ result_err sheet

abbrev pub OnePage : Type 0
OnePage = (bs page a b : List ℕ) (x y : Output) → PageSays bs page a x → PageSays bs page b y → (a ≡ b) × (x ≡ y)
