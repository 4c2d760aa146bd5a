-- How many lengths were tested (02, M-109): the distinct test lengths up to the search's end, counted by themselves, whatever the code
-- visits. On a no the end is the failing length.
--   falls l r         == l is a deadline of row r plus any number of its periods
--   tested ts n       == the test lengths from 1 to n; one that several tasks have is counted once
--   own_lengths n ts   == the sum, over tasks, of the number of that task's test lengths up to n
--   turns m ts        == the sum of m / period over tasks
--   yes_end_by H W B z, yes_end ts hs z   == where the search ends on a yes with the idle point z: the smallest of H, z and, where W is
--                     below H, the greatest L that the last fact admits, or 0
--   YesCount ts hs n  n is the count of a sheet that says fits: the test lengths up to that end
--   CountFew ts hs    each count that a sheet shows is at most own_lengths H ts, which is turns H ts
use Rattle.std.specs.Prelude.{Bool, ◌&&◌, List, ◌≡◌, ℕ, zero, suc, ◌+◌, ◌-◌, ◌/◌, ◌%◌, ◌≤◌, min, ltb, leb, eqb}
use Rattle.demand.specs.Demands.{within}
use Rattle.demand.specs.Rows.{Row, total, some}
use Rattle.demand.specs.Tests.{pick}
use Rattle.verdict.specs.Facts.{bound}
use Rattle.verdict.specs.Idle.{Idle}
use Rattle.verdict.specs.Loads.{whole}
use Rattle.verdict.specs.Multiples.{common}
use Rattle.verdict.specs.Lengths.{LeastFailing}

abbrev pub falls : ℕ → Row → Bool
falls l r = leb r.deadline l && eqb ((l - r.deadline) % r.period) 0

unfoldable pub tested : List Row → ℕ → ℕ
tested ts zero = 0
tested ts (suc n) = tested ts n + pick (some (falls (suc n)) ts) 1 0

unfoldable pub own_lengths : ℕ → List Row → ℕ
own_lengths n ts = total (λ r. within n r.deadline r.period) ts

unfoldable pub turns : ℕ → List Row → ℕ
turns m ts = total (λ r. m / r.period) ts

-- with H, W and the bound B these; (B - 1) / (H - W) is the greatest L with L times (H - W) below B, and 0 where B is 0
unfoldable pub yes_end_by : ℕ → ℕ → ℕ → ℕ → ℕ
yes_end_by H W B z = pick (ltb W H) (min (min H z) ((B - 1) / (H - W))) (min H z)

unfoldable pub yes_end : List Row → List Row → ℕ → ℕ
yes_end ts hs z = yes_end_by (common ts hs) (whole ts hs) (bound ts hs) z

pub record YesCount (ts hs : List Row) (n : ℕ) : Type 0 where
  pub point : ℕ
  pub idle : Idle ts hs point
  pub count : n ≡ tested ts (yes_end ts hs point)

pub record CountFew (ts hs : List Row) : Type 0 where
  pub yes : (n : ℕ) → YesCount ts hs n → n ≤ own_lengths (common ts hs) ts
  pub no : (l : ℕ) → LeastFailing ts hs l → tested ts l ≤ own_lengths (common ts hs) ts
  pub sum : own_lengths (common ts hs) ts ≡ turns (common ts hs) ts
