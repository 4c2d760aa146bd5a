-- Case 9 in full, from its bytes to its bytes, under either header.
use mathlib.Core.Bool.{false}
use mathlib.Core.List.{List, [], ◌∷◌}
use mathlib.Core.Logic.{inl, inr}
use mathlib.Core.Path.{◌≡◌, refl, ◌∙◌}
use native.Mathlib.Omega.{arith}
use Prim.Native.Nat.{ℕ}
use Rattle.std.specs.Prelude.{None}
use Rattle.demand.specs.declared.table.Kind.TheVariants.{Task, Handler}
use Rattle.layout.specs.File.{Entry, entry, FileSays}
use Rattle.layout.specs.declared.steps.Last.TheVariants.{NoField, Empty, Number}
use Rattle.layout.specs.declared.words.Columns.TheVariants.{Three, Four}
use Rattle.sheet.specs.Example.{case_nine, case_nine_four, case_nine_sheet, Prints, CaseNinePrints}
use Rattle.sheet.specs.Printed.{lines, printed}
use Rattle.sheet.specs.Whole.{TableFigures, FileFigures, output_of}
use Rattle.text.specs.Numbers.{decimal}
use Rattle.text.specs.Reasons.{reason}
use Rattle.verdict.specs.Cases.{cases, plain}
use Rattle.verdict.specs.Promise.{Figures, no_of}
use Rattle.sheet.proofs.Whole.{sheet-unique}
use Rattle.verdict.proofs.Cases.{cases-hold}

-- ---- what the files say

rows : List Entry
rows = entry Task 2 5 NoField ∷ entry Task 4 8 NoField ∷ entry Handler 1 4 NoField ∷ []

four_rows : List Entry
four_rows = entry Task 2 5 (Number 5) ∷ entry Task 4 8 (Number 8) ∷ entry Handler 1 4 Empty ∷ []

reads : FileSays case_nine rows
unfolding rows decimal
reads = record {
  cols = Three;
  small = omega arith;
  lawful = ((omega arith, omega arith, tt), ((omega arith, omega arith, tt), ((omega arith, omega arith, tt), tt)));
  written = inr refl;
}

four_reads : FileSays case_nine_four four_rows
unfolding four_rows decimal
four_reads = record {
  cols = Four;
  small = omega arith;
  lawful = ((omega arith, omega arith, omega arith), ((omega arith, omega arith, omega arith), ((omega arith, omega arith, tt), tt)));
  written = inr refl;
}

-- ---- and what is printed

sheet : Figures
sheet = no_of (record { interval = 10; handler = 3; task = 8; left = 0; tested = 3 }) 1150000

judged : TableFigures false (2 ∷ 5 ∷ 5 ∷ 4 ∷ 8 ∷ 8 ∷ []) (1 ∷ 4 ∷ []) sheet
unfolding TableFigures sheet cases plain
judged = cases-hold.1.1.1.1.1.1.1.1.0.holds

printed-lines : printed sheet ≡ case_nine_sheet
unfolding sheet printed lines decimal
printed-lines = refl

prints : (bs : List ℕ) → FileFigures bs sheet → Prints bs case_nine_sheet
unfolding sheet reason
prints bs figures out s =
    sheet-unique bs out (output_of sheet) s (record { sheet = sheet; figures = figures; written = refl })
    ∙ λ i. record { text = printed-lines i; refusal = None }

pub case-nine : CaseNinePrints
unfolding rows four_rows
case-nine = (prints case_nine (inl (rows, reads, judged)), prints case_nine_four (inl (four_rows, four_reads, judged)))
