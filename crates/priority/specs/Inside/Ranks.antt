-- The order of priorities as numbers: a row's rank is its period and, behind it, its place.
--   rank j q            == the rank of row q at place j: less than that of another exactly where q comes before it
--   rank_at ts i         == that of task i
--   past_ranks           == a number above every rank
--   work end j qs l     == the work that rows of a rank below `end` are called for within l ticks, of rows qs whose first is at place j
--   work_by              == that of one row
--   claimed ts hs end l == A(l) and that of the tasks of a rank below `end`
--   next_rank from j qs  == the least rank that is not below `from`, past_ranks where there is none
--   lesser_from          == the lesser of a row's rank and that of the rows behind it, where its own is not below `from`
--   Fewer qs j          rows in range, of which the first is at place j and none past the last place
use Rattle.std.specs.Prelude.{List, [], ◌∷◌, ℕ, suc, ◌+◌, ◌*◌, ◌≤◌, min, ltb, length}
use Rattle.demand.specs.Demands.{called_by, called}
use Rattle.demand.specs.Limits.{tasks_most}
use Rattle.demand.specs.Refusals.{FairRow}
use Rattle.demand.specs.Rows.{Row, row_at, Each}
use Rattle.demand.specs.Tests.{pick}

abbrev pub rank : ℕ → Row → ℕ
rank j q = q.period * 64 + j

abbrev pub rank_at : List Row → ℕ → ℕ
rank_at ts i = rank i (row_at ts i)

abbrev pub past_ranks : ℕ
past_ranks = 64000064

abbrev pub work_by : ℕ → ℕ → ℕ → Row → ℕ
work_by end j l q = pick (ltb (rank j q) end) (called_by l q) 0

unfoldable pub work : ℕ → ℕ → List Row → ℕ → ℕ
work end j [] l = 0
work end j (q ∷ qs) l = work_by end j l q + work end (suc j) qs l

unfoldable pub claimed : List Row → List Row → ℕ → ℕ → ℕ
claimed ts hs end l = called hs l + work end 0 ts l

abbrev pub lesser_from : ℕ → ℕ → ℕ → ℕ
lesser_from from x y = pick (ltb x from) y (min x y)

unfoldable pub next_rank : ℕ → ℕ → List Row → ℕ
next_rank from j [] = past_ranks
next_rank from j (q ∷ qs) = lesser_from from (rank j q) (next_rank from (suc j) qs)

pub record Fewer (qs : List Row) (j : ℕ) : Type 0 where
  pub rows : Each FairRow qs
  pub count : length qs + j ≤ tasks_most
