-- A table in another order (02, M-104).
--   Shuffled rs qs    the same rows, each as often, in any order
--   Exchanged rs qs   the same rows, in an order that comes of exchanging neighbours of different periods only
--   went_to e i        == where the row at place i went: its place in qs, by what was exchanged
use Rattle.std.specs.Prelude.{List, [], ◌∷◌, ◌≡◌, ℕ, zero, suc}
use Rattle.demand.specs.Rows.{Row}

pub data Shuffled : List Row → List Row → Type 0 where
  nothing : Shuffled [] []
  same : {r : Row} {rs qs : List Row} → Shuffled rs qs → Shuffled (r ∷ rs) (r ∷ qs)
  swapped : {r q : Row} {rs : List Row} → Shuffled (r ∷ (q ∷ rs)) (q ∷ (r ∷ rs))
  then : {rs qs os : List Row} → Shuffled rs qs → Shuffled qs os → Shuffled rs os

-- Priority is told by the period, and by the place only on a tie: rows of one period stay in their order.
pub data Exchanged : List Row → List Row → Type 0 where
  unmoved : {rs : List Row} → Exchanged rs rs
  behind : {r : Row} {rs qs : List Row} → Exchanged rs qs → Exchanged (r ∷ rs) (r ∷ qs)
  exchanged : {r q : Row} {rs : List Row} → (r.period ≡ q.period → ⊥) → Exchanged (r ∷ (q ∷ rs)) (q ∷ (r ∷ rs))
  onward : {rs qs os : List Row} → Exchanged rs qs → Exchanged qs os → Exchanged rs os

unfoldable pub went_to : {rs qs : List Row} → Exchanged rs qs → ℕ → ℕ
went_to unmoved i = i
went_to (behind e) zero = 0
went_to (behind e) (suc i) = suc (went_to e i)
went_to (exchanged apart) zero = 1
went_to (exchanged apart) (suc zero) = 0
went_to (exchanged apart) (suc (suc i)) = suc (suc i)
went_to (onward e f) i = went_to f (went_to e i)
