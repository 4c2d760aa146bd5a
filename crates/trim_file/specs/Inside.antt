-- What no promise cites: how the code lays the parts of an answer over a page.
--   bare_sheet          == a page of zeros, nothing written
--   added sheet bs     == the bytes bs more, behind what is written
--   written xs         == a page on which xs is written
--   Replaces bs i old  the digits of the number old stand in bs where the search for the cost of task i stops, and bs is no
--                      longer than a file may be
--   CanWrite bs i a    where the answer a has a cost, its digits stand there; CanCut of a cut
--   output_by bs i a    == what is written of the answer a; output_cut of a cut
use Rattle.std.specs.Prelude.{List, [], ◌≡◌, ℕ, ◌+◌, ◌≤◌, length, replicate, take, Option, Some, None, Result, Ok, Err}
use Rattle.demand.specs.Numbered.{number_of}
use Rattle.demand.specs.declared.refusal.Refusal.{Refusal}
use Rattle.layout.specs.File.{file_most}
use Rattle.page.specs.Laid.{end_of, laid}
use Rattle.recost.specs.Inside.Scan.{cost_from, recosted}
use Rattle.text.specs.Numbers.{decimal}
use Rattle.trim.specs.declared.Cut.{Cut}
use Rattle.trim_file.specs.Printed.{cost_lines, none_lines}
use Rattle.trim_file.specs.Whole.{page_most, output_of}
use Rattle.trim_file.specs.declared.Output.{Output}
use Rattle.trim_file.specs.declared.write.Sheet.{Sheet}

unfoldable pub bare_sheet : Sheet
bare_sheet = record { bytes = replicate page_most 0; len = 0 }

unfoldable pub added : Sheet → List ℕ → Sheet
added sheet bs = record { bytes = laid sheet.bytes sheet.len bs; len = end_of (length sheet.bytes) sheet.len (length bs) }

unfoldable pub written : List ℕ → Sheet
written xs = record { bytes = laid (replicate page_most 0) 0 xs; len = length xs }

pub record Replaces (bs : List ℕ) (i old : ℕ) : Type 0 where
  pub within : cost_from bs i + length (decimal old) ≤ length bs
  pub small : length bs ≤ file_most

abbrev pub CanCut : List ℕ → ℕ → ℕ → Option ℕ → Type 0
CanCut bs i old None = Unit
CanCut bs i old (Some new) = Replaces bs i old

unfoldable pub CanWrite : List ℕ → ℕ → Result Cut Refusal → Type 0
CanWrite bs i (Ok cut) = CanCut bs i cut.old cut.new
CanWrite bs i (Err e) = Unit

abbrev pub output_cut : List ℕ → ℕ → ℕ → Option ℕ → Output
output_cut bs i old None = output_of (none_lines i old) [] 0
output_cut bs i old (Some new) = output_of (cost_lines i 0 old new) (recosted bs (cost_from bs i) old new) 0

unfoldable pub output_by : List ℕ → ℕ → Result Cut Refusal → Output
output_by bs i (Ok cut) = output_cut bs i cut.old cut.new
output_by bs i (Err e) = output_of (cost_lines 0 (number_of e) 0 0) [] (number_of e)
