-- A task's deadline is never after its next legal arrival: a fresh table has none, and what arrives or runs keeps it so.
--   Ordered xs   of each row
use mathlib.Core.List.{List, [], ◌∷◌}
use native.Mathlib.Omega.{arith}
use Prim.Native.Nat.{ℕ, zero, suc, ◌≤◌}
use Rattle.demand.specs.Rows.{Row, Sound, Valid}
use Rattle.machine.specs.Live.{Live, idle, arrive, arrive_all}
use Rattle.machine.specs.Schedules.{RanOne, ran-none, ran-here, ran-later}
use Rattle.machine.specs.Inside.Legal.{table_of}

abbrev pub Ordered : List Live → Type 0
Ordered [] = Unit
Ordered (x ∷ xs) = (x.due ≤ x.next) × Ordered xs

pub idle-ordered : (rs : List Row) → Ordered (idle rs)
unfolding idle
idle-ordered [] = tt
idle-ordered (r ∷ rs) = (omega arith, idle-ordered rs)

-- An arrival has a deadline of at most its period.
row-ordered : (t w : ℕ) (x : Live) → Sound x.row → x.due ≤ x.next → (arrive t w x).due ≤ (arrive t w x).next
row-ordered t zero x sound o = o
row-ordered t (suc w) x sound o = omega (arith, sound.fits)

-- So for all tasks.
pub arrive-ordered : (t : ℕ) (ws : List ℕ) (xs : List Live) → Valid (table_of xs) → Ordered xs → Ordered (arrive_all t ws xs)
unfolding arrive_all table_of
arrive-ordered t [] xs v o = o
arrive-ordered t (w ∷ ws) [] v o = tt
arrive-ordered t (w ∷ ws) (x ∷ xs) v o = (row-ordered t w x v.0 o.0, arrive-ordered t ws xs v.1 o.1)

-- Running moves neither.
pub ran-ordered : {xs ys : List Live} → RanOne xs ys → Ordered xs → Ordered ys
ran-ordered ran-none o = o
ran-ordered (ran-here n e) o = (o.0, o.1)
ran-ordered (ran-later r) o = (o.0, ran-ordered r o.1)
