-- Our own segments as the lines of a schedule file (02, M-110).
--   letter_by k                 == `T` where k is 0, the number of a task's segment, else `H`
--   segment_line k row from to  == the line of a segment, with its CRLF
--   LineOfFile                 it is how a schedule file writes that segment
use Rattle.std.specs.Prelude.{List, ◌∷◌, ◌++◌, ◌≡◌, ℕ, eqb}
use Rattle.demand.specs.Tests.{pick}
use Rattle.demand.specs.declared.table.Kind.{Kind}
use Rattle.schedule_file.specs.File.{entry, entry_text}
use Rattle.schedule_file.specs.Schedule.{kind_number}
use Rattle.text.specs.Ascii.{crlf}
use Rattle.text.specs.Numbers.{decimal, field}

abbrev pub letter_by : ℕ → ℕ
letter_by k = pick (eqb k 0) 84 72

unfoldable pub segment_line : ℕ → ℕ → ℕ → ℕ → List ℕ
segment_line k row from to = (letter_by k ∷ (decimal row ++ (field from ++ field to))) ++ crlf

abbrev pub LineOfFile : Type 0
LineOfFile = (kind : Kind) (row from to : ℕ) → segment_line (kind_number kind) row from to ≡ entry_text (entry kind row from to) ++ crlf
