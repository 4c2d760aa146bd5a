-- A guard as it is handed to the call, which takes numbers of 32 bits. No public promise cites this: a greater number is refused just as
-- well as the greatest that the call takes, so no line shows the difference.
--   number_most   == the greatest number that the call takes
--   cap n        == n, or that where n is greater
--   handed g     == the guard g with each number so; all_handed gs each guard
use Rattle.std.specs.Prelude.{List, [], ◌∷◌, ℕ, min}
use Rattle.guards.specs.declared.Guard.{Guard}
use Rattle.guards.specs.declared.Guard.TheVariants.{Strict, Bursty}

abbrev pub number_most : ℕ
number_most = 4294967295

abbrev pub cap : ℕ → ℕ
cap n = min n number_most

abbrev pub handed : Guard → Guard
handed (Strict int flip setup work expire gap) = Strict (cap int) (cap flip) (cap setup) (cap work) (cap expire) (cap gap)
handed (Bursty n int flip work expire count clear gap) =
    Bursty (cap n) (cap int) (cap flip) (cap work) (cap expire) (cap count) (cap clear) (cap gap)

abbrev pub all_handed : List Guard → List Guard
all_handed [] = []
all_handed (g ∷ gs) = handed g ∷ all_handed gs
