-- Divisors and multiples of two numbers (01, "Tables and figures").
--   gcd a b   == the greatest common divisor, by Euclid's remainder rule
--   lcm a b   == the least common multiple, by it
use Rattle.std.specs.Prelude.{ℕ, zero, suc, ◌*◌, ◌/◌, ◌%◌}

-- The second number falls each time, so that many turns and one more are enough.
unfoldable pub euclid : ℕ → ℕ → ℕ → ℕ
euclid zero a b = a
euclid (suc turns) a zero = a
euclid (suc turns) a (suc b) = euclid turns (suc b) (a % suc b)

unfoldable pub gcd : ℕ → ℕ → ℕ
gcd a b = euclid (suc b) a b

unfoldable pub lcm : ℕ → ℕ → ℕ
lcm a b = a / gcd a b * b
