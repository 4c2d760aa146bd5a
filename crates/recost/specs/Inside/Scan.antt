-- How the code finds the cost of a task in a file: what `cost_from` promises. What that finds is said in Rewritten.
--   opens b bs         == the byte b ends a line and the bytes bs behind it begin with that of a task: an LF and a `t`
--   cost_from bs k      == how far into bs the cost of task k begins: behind the LF and `task,`; past the end where there is none
--   recosted bs at old new   == the bytes bs with the digits of the number old, which begin at place `at`, replaced by those of new
use Rattle.std.specs.Prelude.{Bool, true, false, ◌&&◌, List, [], ◌∷◌, ◌++◌, ℕ, zero, suc, ◌+◌, ◌-◌, eqb, length, get_or, take, drop}
use Rattle.demand.specs.Tests.{pick}
use Rattle.text.specs.Numbers.{decimal}

abbrev pub opens : ℕ → List ℕ → Bool
opens b bs = eqb b 10 && eqb (get_or bs 0 0) 116

-- the bytes of an LF and `task,`
abbrev pub behind_name : ℕ
behind_name = 6

-- the answer at a byte, from that behind it
abbrev pub reached : Bool → ℕ → ℕ → ℕ
reached true zero rest = behind_name
reached true (suc k) rest = suc rest
reached false k rest = suc rest

unfoldable pub cost_from : List ℕ → ℕ → ℕ
cost_from [] k = 0
cost_from (b ∷ bs) k = reached (opens b bs) k (cost_from bs (k - pick (opens b bs) 1 0))

unfoldable pub recosted : List ℕ → ℕ → ℕ → ℕ → List ℕ
recosted bs at old new = take at bs ++ (decimal new ++ drop (at + length (decimal old)) bs)
