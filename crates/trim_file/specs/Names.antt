-- Names of tasks (02, M-112; 01, case 13 for their form): `T` and the row in decimal, from 0, with no leading zero.
--   row_limit       == the first number of more than 7 digits: the row of no table
--   row_named bs    == the row that the name bs says, row_limit where it is no task's name
--   NamesRead      the name of row i is read as i
use Rattle.std.specs.Prelude.{List, [], ◌∷◌, ◌≡◌, ℕ, ◌<◌, eqb}
use Rattle.demand.specs.Tests.{pick}
use Rattle.text.specs.Numbers.{decimal}
use Rattle.text.specs.Spelled.{spelled}

abbrev pub row_limit : ℕ
row_limit = 10000000

unfoldable pub row_named : List ℕ → ℕ
row_named [] = row_limit
row_named (t ∷ bs) = pick (eqb t 84) (spelled row_limit bs) row_limit

-- `T` is the byte 84
abbrev pub NamesRead : Type 0
NamesRead = (i : ℕ) → i < row_limit → row_named (84 ∷ decimal i) ≡ i
