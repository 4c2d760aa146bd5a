-- Under full arrivals what is asked above a place is never lost: what running, arrivals and a tick do to it, and to the row at one place.
use mathlib.Core.List.{List, [], ◌∷◌}
use mathlib.Core.Path.{◌≡◌, refl, ap}
use native.Mathlib.Nat.{mul-zero, sub-zero}
use native.Mathlib.Omega.{arith}
use Prim.Native.Nat.{ℕ, zero, suc, ◌+◌, ◌-◌, ◌≤◌, ◌<◌}
use lib.ListN.{length}
use Rattle.demand.specs.Demands.{ceil}
use Rattle.demand.specs.Rows.{Row, row_at, Positive}
use Rattle.demand.proofs.Divide.{ceil-zero}
use Rattle.machine.specs.Live.{Live, due_of, idle, arrive, arrive_all, OnTime}
use Rattle.machine.specs.Inside.Legal.{table_of}
use Rattle.machine.specs.Machine.{share}
use Rattle.machine.specs.Schedules.{RanOne, ran-none, ran-here, ran-later}
use Rattle.machine.proofs.Beats.{OnBeats}
use Rattle.machine.proofs.FullArrivals.{full, arrived, handler-full}
use Rattle.machine.proofs.No.{wait-same}
use Rattle.machine.proofs.Priority.Above.{over, above_owed, above_future, above_called, share-two, share-zero, arrive-row}
use Rattle.machine.specs.Places.{at_place}

share-drop : (k o n : ℕ) → o ≡ suc n → share k o ≤ suc (share k n)
share-drop zero o n e = omega arith
share-drop (suc k) o n e = omega arith

-- A tick takes at most one unit of what they are owed.
pub ran-above : {xs ys : List Live} (p i j : ℕ) → RanOne xs ys → above_owed p i j xs ≤ suc (above_owed p i j ys)
unfolding above_owed
ran-above p i j ran-none = omega arith
ran-above p i j (ran-here {x = x} n e) = omega (arith, share-drop (over p i j x.row) x.owed n e)
ran-above p i j (ran-later r) = omega (arith, ran-above p i (suc j) r)

-- Full arrivals lose nothing.
pub above-full : (p i j t l : ℕ) (xs : List Live) → Positive (table_of xs)
    → above_owed p i j xs + above_future p i j t xs l ≤ above_owed p i j (arrived t xs) + above_future p i j t (arrived t xs) l
unfolding arrive_all full above_owed above_future table_of
above-full p i j t l [] pos = omega arith
above-full p i j t l (x ∷ xs) pos =
    let w : ℕ = share (suc t - x.next) x.row.cost in
    rw (arrive-row t w x)
    (omega (
      arith,
      share-two (over p i j x.row) _ _ _ _ (rw (arrive-row t w x) at (handler-full t l w x pos.0 refl)),
      above-full p i (suc j) t l xs pos.1,
    ))

-- A tick goes by before any may arrive: what can yet be called for stays.
pub above_same : (p i j t k : ℕ) (xs : List Live) → OnBeats (suc t) xs → above_future p i j t xs (suc k) ≡ above_future p i j (suc t) xs k
unfolding above_future
above_same p i j t k [] a = refl
above_same p i j t k (x ∷ xs) a =
    omega (
      arith,
      ap (share (over p i j x.row)) (wait-same t k x a.0.from (λ n. ceil n x.row.period)),
      above_same p i (suc j) t k xs a.1,
    )

-- No ticks call for nothing.
pub above-called-zero : (p i j : ℕ) (rs : List Row) → above_called p i j rs 0 ≡ 0
unfolding above_called
above-called-zero p i j [] = refl
above-called-zero p i j (r ∷ rs) = rw (ceil-zero r.period, mul-zero r.cost) (omega (arith, share-zero (over p i j r), above-called-zero p i (suc j) rs))

-- A fresh table can yet be called for all of it.
pub idle-above-future : (p i j k : ℕ) (rs : List Row) → above_called p i j rs k ≤ above_future p i j 0 (idle rs) k
unfolding above_called above_future idle
idle-above-future p i j k [] = omega arith
idle-above-future p i j k (r ∷ rs) = rw (sub-zero k) (omega (arith, idle-above-future p i (suc j) k rs))

-- ---- the place i

-- What a full arrival brings to one place.
pub at-full : (t i : ℕ) (xs : List Live) → i < length xs → at_place i (arrived t xs) ≡ arrive t (share (suc t - (at_place i xs).next) (at_place i xs).row.cost) (at_place i xs)
unfolding arrive_all full
at-full t i [] h = absurd (omega arith)
at-full t zero (x ∷ xs) h = refl
at-full t (suc i) (x ∷ xs) h = at-full t i xs (omega arith)

-- An arrival: work, a period and a deadline.
pub arrive-some : (t w c : ℕ) (x : Live) → w ≡ c → 0 < c → (0 < (arrive t w x).owed) × ((arrive t w x).next ≡ t + x.row.period) × ((arrive t w x).due ≡ t + x.row.deadline)
arrive-some t zero c x e h = absurd (omega arith)
arrive-some t (suc w) c x e h = (omega arith, refl, refl)

pub arrive_none : (t w : ℕ) (x : Live) → w ≡ 0 → arrive t w x ≡ x
arrive_none t zero x e = refl
arrive_none t (suc w) x e = absurd (omega arith)

-- One place of a fresh table.
pub idle-place : (i : ℕ) (rs : List Row) → i < length rs → at_place i (idle rs) ≡ record { row = row_at rs i; next = 0; due = 0; owed = 0 }
unfolding idle
idle-place i [] h = absurd (omega arith)
idle-place zero (r ∷ rs) h = refl
idle-place (suc i) (r ∷ rs) h = idle-place i rs (omega arith)

-- On time: at one place.
pub late-place : (t j : ℕ) (xs : List Live) → OnTime t xs → j < length xs → due_of (at_place j xs) ≡ t → (at_place j xs).owed ≡ 0
late-place t j [] on h e = absurd (omega arith)
late-place t zero (x ∷ xs) on h e = on.0 e
late-place t (suc j) (x ∷ xs) on h e = late-place t j xs on.1 (omega arith) e
