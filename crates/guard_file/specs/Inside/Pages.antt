-- How the page is put together from the numbers that the reader kept. No public promise cites this.
--   guard_lines_by i t p   == the two rows of a guard, by both costs and the period
--   lines_up_to ns n       == those of the first n guards, whose numbers are ns
--   Written r page page' out   page' has the lines of what was read over page, and out is their length and the refusal
use Rattle.std.specs.Prelude.{List, [], ◌++◌, ◌≡◌, ℕ, zero, suc, ◌+◌, ◌*◌, eqb, ltb, length, get_or, Result, Ok, Err}
use Rattle.demand.specs.Numbered.{number_of}
use Rattle.demand.specs.Tests.{pick}
use Rattle.demand.specs.declared.refusal.Refusal as demand
use Rattle.text.specs.Reasons.{reason}
use Rattle.guard_file.specs.Inside.Building.{guards_held, told_first}
use Rattle.guard_file.specs.Page.{Refusal, refusal, row_line, rows_heading, refused_text, laid}
use Rattle.guard_file.specs.declared.Output.{Output}
use Rattle.guard_file.specs.declared.reader.Sheet.{Sheet}

unfoldable pub guard_lines_by : ℕ → ℕ → ℕ → List ℕ
guard_lines_by i t p = row_line i p ++ row_line t p

unfoldable pub lines_up_to : List ℕ → ℕ → List ℕ
lines_up_to ns zero = []
lines_up_to ns (suc k) = lines_up_to ns k ++ guard_lines_by (get_or ns (3 * k) 0) (get_or ns (3 * k + 1) 0) (get_or ns (3 * k + 2) 0)

-- the most bytes of a guard's lines: two words of 7, two numbers of 20 digits for each, commas and line ends
abbrev pub guard_most : ℕ
guard_most = 104

-- 12, then 2, then that of a guard
abbrev pub refusal_in : Result Sheet demand.Refusal → Refusal
refusal_in (Ok s) = pick (ltb guards_held s.count) (refusal 2 0) (told_first s.first)
refusal_in (Err e) = refusal (number_of e) 0

abbrev pub lines_of : Sheet → List ℕ
lines_of s =
    pick (eqb (refusal_in (Ok s)).number 0) (rows_heading ++ lines_up_to s.numbers s.count)
    (refused_text (refusal_in (Ok s)).number (refusal_in (Ok s)).place)

abbrev pub lines_in : Result Sheet demand.Refusal → List ℕ
lines_in (Ok s) = lines_of s
lines_in (Err e) = refused_text (number_of e) 0

pub record Written (r : Result Sheet demand.Refusal) (page page' : List ℕ) (out : Output) : Type 0 where
  pub written : page' ≡ laid page 0 (lines_in r)
  pub counted : out.len ≡ length (lines_in r)
  pub refusal : out.refusal ≡ reason (refusal_in r).number
