-- What fixed priorities ask of a length (02, M-103): static priorities, shorter period first, lower row on a tie.
--   above i r j q          == row q at place j comes before row r at place i: a shorter period, or the same and a lower row
--   asked_from j qs i r l   == the sum of cost times (l / period rounded up) over row r at place i and those above it,
--                             of rows qs whose first is at place j
--   asked ts hs i l        == A(l) plus that sum over task i and those above it
use Rattle.std.specs.Prelude.{Bool, ◌&&◌, ◌||◌, List, [], ◌∷◌, ℕ, suc, ◌+◌, ltb, eqb}
use Rattle.demand.specs.Demands.{called_by, called}
use Rattle.demand.specs.Rows.{Row, row_at}
use Rattle.demand.specs.Tests.{pick}

abbrev pub above : ℕ → Row → ℕ → Row → Bool
above i r j q = ltb q.period r.period || (eqb q.period r.period && ltb j i)

unfoldable pub asked_from : ℕ → List Row → ℕ → Row → ℕ → ℕ
asked_from j [] i r l = 0
asked_from j (q ∷ qs) i r l = pick (eqb j i || above i r j q) (called_by l q) 0 + asked_from (suc j) qs i r l

unfoldable pub asked : List Row → List Row → ℕ → ℕ → ℕ
asked ts hs i l = called hs l + asked_from 0 ts i (row_at ts i) l
