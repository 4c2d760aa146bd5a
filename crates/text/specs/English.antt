-- The English line of a refusal number (01, "Numbered refusals"; 02, M-101 for 1 and 13, M-107 for 14, M-112 for 18): the law's words.
--   english n   == the line of the number n, "unknown" for a number that is not in the table
use Rattle.std.specs.Prelude.{List, [], ◌∷◌, ℕ, get_or}
use Rattle.text.specs.Ascii.{ascii}

-- by number, from 0; 15, 16 and 17 are not given by any call
abbrev pub phrases : List (List ℕ)
phrases =
    ascii "unknown"
    ∷ ascii "a task list is not in threes, or a handler list has an odd count of numbers"
    ∷ ascii "no task, over 64 tasks or over 16 handlers"
    ∷ ascii "a cost or period is 0 or above 1,000,000"
    ∷ ascii "H is above 1,000,000,000"
    ∷ ascii "an interval above 1,000,000,000 is asked about"
    ∷ ascii "the run is out of bounds"
    ∷ ascii "the run is over"
    ∷ ascii "the clock is 1,000,000,000"
    ∷ ascii "a step's list has the wrong count of numbers"
    ∷ ascii "an arrival comes before the row's next legal tick"
    ∷ ascii "an arrival brings more than the row's cost"
    ∷ ascii "the file breaks the layout below"
    ∷ ascii "deadline 0 or above its period, or a handler with one"
    ∷ ascii "N out of range"
    ∷ ascii "unknown"
    ∷ ascii "unknown"
    ∷ ascii "unknown"
    ∷ ascii "a named task that isn't in the table"
    ∷ []

unfoldable pub english : ℕ → List ℕ
english n = get_or phrases n (ascii "unknown")
