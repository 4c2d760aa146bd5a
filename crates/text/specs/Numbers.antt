-- Digits, and numbers in decimal (01, "File and printed line").
--   is_digit b            == b is one of `0` to `9`
--   continues limit v b  == b may stand behind the digits of v in a number below the limit, a power of ten: a digit, behind
--                           no leading zero
--   last_digits k n       == the last digits of n, k at most, the most significant first, with no zero in front
--   decimal n            == n in decimal; 20 digits are enough for every number of 64 bits
--   field n              == a comma and n in decimal
--   fields_of ns          == a field for each number of ns
use Rattle.std.specs.Prelude.{Bool, ◌&&◌, List, [], ◌∷◌, ◌++◌, ℕ, zero, suc, ◌+◌, ◌/◌, ◌%◌, ltb, leb}
use Rattle.demand.specs.Tests.{pick}

abbrev pub is_digit : ℕ → Bool
is_digit b = leb 48 b && leb b 57

abbrev pub continues : ℕ → ℕ → ℕ → Bool
continues limit v b = is_digit b && ltb 0 v && ltb v (limit / 10)

abbrev pub last_digits : ℕ → ℕ → List ℕ
last_digits zero n = []
last_digits (suc k) n = pick (ltb n 10) ((48 + n) ∷ []) (last_digits k (n / 10) ++ ((48 + n % 10) ∷ []))

unfoldable pub decimal : ℕ → List ℕ
decimal n = last_digits 20 n

abbrev pub comma : ℕ
comma = 44

abbrev pub field : ℕ → List ℕ
field n = comma ∷ decimal n

abbrev pub fields_of : List ℕ → List ℕ
fields_of [] = []
fields_of (n ∷ ns) = field n ++ fields_of ns
