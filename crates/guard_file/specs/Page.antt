-- What is printed of a file of guards (02, M-107; 01, "File and printed line" and "Numbered refusals"): from bytes to bytes.
--   row_line c p            == a handler row of a table file of four columns: its cost, its period and no deadline
--   guard_lines g           == the two rows of the guard g, the interrupt's and the timer's; all_lines of each guard
--   rows_heading            == the heading of such a table
--   rows_text gs            == the heading and the rows of the guards gs
--   refused_text k i        == the heading and the line of refusal k, of the guard at place i
--   Refusal                == a number, 0 for none, and the place of the guard that is refused, 0 where it is the file
--   first_refused i gs      == that of the first refused guard of gs, whose first is at place i
--   guards_most             == the most guards of a file: each makes two handler rows, of which a table has 16 at most
--   refusal_of gs           == 2 where there are more guards, else that of the first refused guard
--   Told                   == what a file comes to: a refusal, and its guards
--   lines_of told           == its lines: the rows, or the refusal
--   FileTold bs told       told is what the file bs comes to: 12 before all where it breaks the layout
--   page_most               == the bytes of a page
--   laid page at bs        == the page with the bytes bs stored from place `at` on; the rest stays
--   PageSays bs page page' out   of the file bs page' is what is written over page, and out its length and the refusal
--   OnePage                a file has one such outcome and no other
use Rattle.std.specs.Prelude.{List, [], ◌∷◌, ◌++◌, ◌⊎◌, ◌≡◌, ℕ, suc, eqb, ltb, length}
use Rattle.std.proofs.lemmas.List.Edits.{sets}
use Rattle.demand.specs.Tests.{pick}
use Rattle.guard_file.specs.File.{FileSays, SaysNothing}
use Rattle.guard_file.specs.declared.Output.{Output}
use Rattle.guards.specs.Guards.{guard_refusal, interrupt_cost, timer_cost, gap_of}
use Rattle.guards.specs.declared.Guard.{Guard}
use Rattle.text.specs.Ascii.{ascii, crlf}
use Rattle.text.specs.Reasons.{reason}
use Rattle.text.specs.Numbers.{comma, fields_of}

-- ---- the lines

abbrev pub row_line : ℕ → ℕ → List ℕ
row_line c p = ascii "handler" ++ fields_of (c ∷ p ∷ []) ++ (comma ∷ crlf)

abbrev pub guard_lines : Guard → List ℕ
guard_lines g = row_line (interrupt_cost g) (gap_of g) ++ row_line (timer_cost g) (gap_of g)

abbrev pub all_lines : List Guard → List ℕ
all_lines [] = []
all_lines (g ∷ gs) = guard_lines g ++ all_lines gs

abbrev pub rows_heading : List ℕ
rows_heading = ascii "kind,cost,period,deadline" ++ crlf

abbrev pub rows_text : List Guard → List ℕ
rows_text gs = rows_heading ++ all_lines gs

unfoldable pub refused_text : ℕ → ℕ → List ℕ
refused_text k i = ascii "guards,code,guard" ++ crlf ++ ascii "refused" ++ fields_of (k ∷ i ∷ []) ++ crlf

-- ---- refusals

pub record Refusal : Type 0 where
  pub number : ℕ
  pub place : ℕ

abbrev pub refusal : ℕ → ℕ → Refusal
refusal k i = record { number = k; place = i }

abbrev pub first_refused : ℕ → List Guard → Refusal
first_refused i [] = refusal 0 0
first_refused i (g ∷ gs) = pick (eqb (guard_refusal g) 0) (first_refused (suc i) gs) (refusal (guard_refusal g) i)

abbrev pub guards_most : ℕ
guards_most = 8

abbrev pub refusal_of : List Guard → Refusal
refusal_of gs = pick (ltb guards_most (length gs)) (refusal 2 0) (first_refused 0 gs)

-- ---- the whole

pub record Told : Type 0 where
  pub refused : Refusal
  pub guards : List Guard

abbrev pub lines_by : Refusal → List Guard → List ℕ
lines_by r gs = pick (eqb r.number 0) (rows_text gs) (refused_text r.number r.place)

abbrev pub lines_of : Told → List ℕ
lines_of told = lines_by told.refused told.guards

abbrev pub told_of : List Guard → Told
told_of gs = record { refused = refusal_of gs; guards = gs }

abbrev pub broken : Told
broken = record { refused = refusal 12 0; guards = [] }

abbrev pub FileTold : List ℕ → Told → Type 0
FileTold bs told = ((gs : List Guard) × FileSays bs gs × (told ≡ told_of gs)) ⊎ (SaysNothing bs × (told ≡ broken))

abbrev pub page_most : ℕ
page_most = 1024

abbrev pub laid : List ℕ → ℕ → List ℕ → List ℕ
laid page at bs = sets page at bs

pub record PageSays (bs page page' : List ℕ) (out : Output) : Type 0 where
  pub told : Told
  pub figures : FileTold bs told
  pub written : page' ≡ laid page 0 (lines_of told)
  pub counted : out.len ≡ length (lines_of told)
  pub refusal : out.refusal ≡ reason told.refused.number

abbrev pub OnePage : Type 0
OnePage = (bs page a b : List ℕ) (x y : Output) → PageSays bs page a x → PageSays bs page b y → (a ≡ b) × (x ≡ y)
