-- The segments of a schedule: neighbouring ticks of one row joined, gaps idle (02, M-110). Drawn tick by tick, the last one held back
-- until its end is known.
--   Drawing             == the segments that have ended, to whom the ticks since then go, and since when
--   closed d t          == the segments, where the held one ends at tick t; idle ticks are none
--   moved d t w         == the drawing where tick t goes to w: the same one goes on, or its segment ends and a new one begins
--   drawn σ t           == the drawing of the ticks before t
--   segments_to σ L      == the segments of schedule σ before the span's end L
--   numbers_of ss        == the numbers of segments, four each: kind, row, from, to
--   Stops σ L ss        the tick behind each segment, within the span, does not go to its row: neighbouring ticks of one row are joined
use Rattle.std.specs.Prelude.{Bool, true, false, List, [], ◌∷◌, ◌++◌, ◌≡◌, ℕ, zero, suc, ◌<◌, eqb}
use Rattle.demand.specs.Tests.{pick}
use Rattle.segments.specs.Given.{Who, nobody, task, handler}
use Rattle.segments.specs.Segments.{Seg}

pub record Drawing : Type 0 where
  pub done : List Seg
  pub who : Who
  pub from : ℕ

abbrev pub ended : Who → List Seg → ℕ → ℕ → List Seg
ended nobody done from t = done
ended (task i) done from t = done ++ (record { who = task i; from = from; to = t } ∷ [])
ended (handler i) done from t = done ++ (record { who = handler i; from = from; to = t } ∷ [])

abbrev pub closed : Drawing → ℕ → List Seg
closed d t = ended d.who d.done d.from t

abbrev pub same_who : Who → Who → Bool
same_who nobody nobody = true
same_who nobody (task j) = false
same_who nobody (handler j) = false
same_who (task i) nobody = false
same_who (task i) (task j) = eqb i j
same_who (task i) (handler j) = false
same_who (handler i) nobody = false
same_who (handler i) (task j) = false
same_who (handler i) (handler j) = eqb i j

abbrev pub moved : Drawing → ℕ → Who → Drawing
moved d t w = pick (same_who d.who w) d (record { done = closed d t; who = w; from = t })

unfoldable pub drawn : (ℕ → Who) → ℕ → Drawing
drawn σ zero = record { done = []; who = nobody; from = 0 }
drawn σ (suc t) = moved (drawn σ t) t (σ t)

unfoldable pub segments_to : (ℕ → Who) → ℕ → List Seg
segments_to σ L = closed (drawn σ L) L

-- ---- as numbers

abbrev pub kind_of : Who → ℕ
kind_of (task i) = 0
kind_of (handler j) = 1
kind_of nobody = 2

abbrev pub row_of : Who → ℕ
row_of (task i) = i
row_of (handler j) = j
row_of nobody = 0

unfoldable pub numbers_of : List Seg → List ℕ
numbers_of [] = []
numbers_of (s ∷ ss) = kind_of s.who ∷ row_of s.who ∷ s.from ∷ s.to ∷ numbers_of ss

-- ---- joined

abbrev pub Stops : (ℕ → Who) → ℕ → List Seg → Type 0
Stops σ L [] = Unit
Stops σ L (s ∷ ss) = (s.to < L → σ s.to ≡ s.who → ⊥) × Stops σ L ss
