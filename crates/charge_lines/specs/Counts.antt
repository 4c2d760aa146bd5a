-- How many lines fit, miss or say nothing (02, M-113).
--   most              == the greatest number that is counted to
--   counted c w       == the counts c with one line more, whose word is w; a refused table says nothing
--   tallied ws        == the counts of lines with the words ws, one after the other
--   count test ws     == how many of ws the test holds of
--   TallyCounts       up to so many lines, those are the counts of the words
--   count_heading, count_line way c   == what is printed of them
use Rattle.std.specs.Prelude.{Bool, true, false, List, [], ◌∷◌, ◌++◌, ◌≡◌, ℕ, ◌+◌, ◌≤◌, min, length}
use Rattle.charge_lines.specs.declared.counts.Counts.{Counts}
use Rattle.charge_lines.specs.declared.counts.Way.{Way}
use Rattle.charge_lines.specs.declared.counts.Way.TheVariants as way
use Rattle.charges.specs.declared.figures.Word.{Word}
use Rattle.charges.specs.declared.figures.Word.TheVariants as word
use Rattle.demand.specs.Tests.{pick}
use Rattle.text.specs.Ascii.{ascii, crlf}
use Rattle.text.specs.Numbers.{fields_of}

abbrev pub most : ℕ
most = 18446744073709551615

-- ---- counting

abbrev pub counted : Counts → Word → Counts
counted c word.Fits = record { fits = min (c.fits + 1) most; misses = c.misses; none = c.none }
counted c word.Misses = record { fits = c.fits; misses = min (c.misses + 1) most; none = c.none }
counted c word.None = record { fits = c.fits; misses = c.misses; none = min (c.none + 1) most }
counted c word.Refused = record { fits = c.fits; misses = c.misses; none = min (c.none + 1) most }

unfoldable pub tallied_on : Counts → List Word → Counts
tallied_on c [] = c
tallied_on c (w ∷ ws) = tallied_on (counted c w) ws

abbrev pub tallied : List Word → Counts
tallied ws = tallied_on (record { fits = 0; misses = 0; none = 0 }) ws

-- ---- what the counts are

abbrev pub is_fits : Word → Bool
is_fits word.Fits = true
is_fits word.Misses = false
is_fits word.None = false
is_fits word.Refused = false

abbrev pub is_misses : Word → Bool
is_misses word.Fits = false
is_misses word.Misses = true
is_misses word.None = false
is_misses word.Refused = false

-- a refused table counts as none
abbrev pub is_none : Word → Bool
is_none word.Fits = false
is_none word.Misses = false
is_none word.None = true
is_none word.Refused = true

unfoldable pub count : (Word → Bool) → List Word → ℕ
count test [] = 0
count test (w ∷ ws) = pick (test w) 1 0 + count test ws

abbrev pub TallyCounts : Type 0
TallyCounts =
    (ws : List Word) → length ws ≤ most
    → tallied ws ≡ record { fits = count is_fits ws; misses = count is_misses ws; none = count is_none ws }

-- ---- their lines

abbrev pub count_heading : List ℕ
count_heading = ascii "charge,fits,misses,none" ++ crlf

abbrev pub way_name : Way → List ℕ
way_name way.Exact = ascii "exact"
way_name way.Quantum = ascii "quantum"
way_name way.Task = ascii "task"

unfoldable pub count_line : Way → Counts → List ℕ
count_line way c = way_name way ++ (fields_of (c.fits ∷ c.misses ∷ c.none ∷ []) ++ crlf)
