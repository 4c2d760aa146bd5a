-- Scans over the first n places. Nothing of 01 stands here.
--   at xs k                == the number at place k of xs, 0 past its end
--   any p n                == the test p holds of some place below n
--   first_of p here n none  == here k, of the first place k below n of which p holds; none where there is no such place
--   filled f n xs          == xs with f 0, .., f (n - 1) in its first n places
--   used xs                == some number of xs isn't 0
use Rattle.std.specs.List.{list_any}
use Rattle.std.specs.Prelude.{Bool, false, not, ◌||◌, List, ℕ, zero, suc, eqb, get_or, set}
use Rattle.demand.specs.Tests.{pick}

abbrev pub at : List ℕ → ℕ → ℕ
at xs k = get_or xs k 0

unfoldable pub any : (ℕ → Bool) → ℕ → Bool
any p zero = false
any p (suc n) = any p n || p n

unfoldable pub first_of : {A : Type 0} → (ℕ → Bool) → (ℕ → A) → ℕ → A → A
first_of p here zero none = none
first_of p here (suc n) none = first_of p here n (pick (p n) (here n) none)

unfoldable pub filled : (ℕ → ℕ) → ℕ → List ℕ → List ℕ
filled f zero xs = xs
filled f (suc n) xs = set (filled f n xs) n (f n)

unfoldable pub used : List ℕ → Bool
used = list_any (λ x. not (eqb x 0))
