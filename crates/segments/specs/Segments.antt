-- A schedule as segments, in time order and none overlapping, gaps idle (02, M-110).
--   Seg                == a stretch of ticks from, from + 1, .., to - 1 that all go to one row
--   who_of kind row     == whose segment it is: kind 0 the task at row, 1 the handler; any other kind is nobody's
--   segment_width       == how many numbers a segment has in a lent list: kind, row, from, to
--   segments_of s       == the segments of a lent list
--   InOrder a ss       from tick a on the segments ss are in time order, none overlapping and none empty
--   at ss t            == who runs in tick t: the row of the segment that has it, and nobody where none has
--   Agrees σ ss a L    in the ticks from a to L the schedule σ is as the segments ss say
use Rattle.std.specs.Prelude.{List, [], ◌∷◌, ◌≡◌, ℕ, zero, suc, ◌-◌, ◌≤◌, ◌<◌}
use Rattle.segments.specs.Given.{Who, nobody, task, handler}

pub record Seg : Type 0 where
  pub who : Who
  pub from : ℕ
  pub to : ℕ

abbrev pub who_of : ℕ → ℕ → Who
who_of zero row = task row
who_of (suc zero) row = handler row
who_of (suc (suc kind)) row = nobody

abbrev pub segment_width : ℕ
segment_width = 4

-- Fewer numbers than a segment has are no segment.
unfoldable pub segments_of : List ℕ → List Seg
segments_of [] = []
segments_of (kind ∷ []) = []
segments_of (kind ∷ row ∷ []) = []
segments_of (kind ∷ row ∷ from ∷ []) = []
segments_of (kind ∷ row ∷ from ∷ to ∷ s) = record { who = who_of kind row; from = from; to = to } ∷ segments_of s

abbrev pub InOrder : ℕ → List Seg → Type 0
InOrder a [] = Unit
InOrder a (s ∷ ss) = (a ≤ s.from) × (s.from < s.to) × InOrder s.to ss

-- w where neither number is 0, else v.
abbrev pub both : ℕ → ℕ → Who → Who → Who
both zero m w v = v
both (suc n) zero w v = v
both (suc n) (suc m) w v = w

unfoldable pub at : List Seg → ℕ → Who
at [] t = nobody
at (s ∷ ss) t = both (suc t - s.from) (s.to - t) s.who (at ss t)

abbrev pub Agrees : (ℕ → Who) → List Seg → ℕ → ℕ → Type 0
Agrees σ ss a L = (t : ℕ) → a ≤ t → t < L → σ t ≡ at ss t
