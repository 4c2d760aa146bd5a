-- What is asked, in the terms of the invariant: so a response is a length with room.
use mathlib.Core.Bool.{◌||◌}
use mathlib.Core.List.{List, [], ◌∷◌}
use mathlib.Core.Logic.{◌⊎◌, inl, inr}
use mathlib.Core.Path.{◌≡◌, refl, sym, ap, ◌∙◌}
use native.Mathlib.Nat.{zero-add, eq-or-lt_of_le}
use native.Mathlib.Omega.{arith}
use borrow.Author.Tests.{eq-eqb, ne_eqb, lt-ltb, le-ltb}
use Prim.Native.Nat.{ℕ, suc, ◌+◌, ◌-◌, ◌≤◌, ◌<◌, min}
use lib.Dec.{eqb}
use lib.ListN.{length}
use Rattle.demand.specs.Demands.{called_by, called}
use Rattle.demand.specs.Rows.{Row, row_at}
use Rattle.demand.specs.Tests.{pick}
use Rattle.demand.proofs.Divide.{le-or-lt}
use Rattle.priority.specs.Asked.{above, asked_from, asked}
use Rattle.priority.specs.Responses.{response, Meets}
use Rattle.machine.specs.Machine.{share}
use Rattle.machine.proofs.Room.{share_in, share-out}
use Rattle.machine.proofs.Priority.Above.{over, above_called}
use Rattle.machine.proofs.Priority.Kept.{Roomy}
use Rattle.priority.proofs.Response.{response-meets}

-- One row's share: that of the row itself and of a row above it.
row-share : (i j c : ℕ) (r q : Row) → (j ≡ i → q.period ≡ r.period) → pick (eqb j i || above i r j q) c 0 ≡ share (over r.period (suc i) j q) c
row-share i j c r q own = places (le-or-lt j i) (le-or-lt i j)
  where
    n : ℕ
    n = r.period + min 1 (suc i - j)

    in' : q.period < n → c ≡ share (n - q.period) c
    in' h = sym (share_in n q.period c h)

    out' : n ≤ q.period → 0 ≡ share (n - q.period) c
    out' h = sym (share-out n q.period c h)

    apart : (j ≡ i → ⊥) → (q.period ≤ r.period) ⊎ (r.period < q.period) → (r.period ≤ q.period) ⊎ (q.period < r.period) → (j ≤ i) ⊎ (i < j)
        → pick (eqb j i || above i r j q) c 0 ≡ share (n - q.period) c
    apart ne (inl a) (inr b) side = rw (ne_eqb j i ne, lt-ltb q.period r.period b) (in' (omega arith))
    apart ne (inl a) (inl b) (inl side) =
        rw (ne_eqb j i ne, le-ltb q.period r.period b, eq-eqb q.period r.period (omega arith), lt-ltb j i (lt_of ne side)) (in' (omega arith))
      where
        lt_of : (j ≡ i → ⊥) → j ≤ i → j < i
        lt_of ne' h = split (eq-or-lt_of_le h)
          where
            split : (j ≡ i) ⊎ (j < i) → j < i
            split (inl e) = absurd (ne' e)
            split (inr l) = l
    apart ne (inl a) (inl b) (inr side) =
        rw (ne_eqb j i ne, le-ltb q.period r.period b, eq-eqb q.period r.period (omega arith), le-ltb j i (omega arith)) (out' (omega arith))
    apart ne (inr a) b side =
        rw (ne_eqb j i ne, le-ltb q.period r.period (omega arith), ne_eqb q.period r.period (λ e. omega arith)) (out' (omega arith))

    places : (j ≤ i) ⊎ (i < j) → (i ≤ j) ⊎ (j < i) → pick (eqb j i || above i r j q) c 0 ≡ share (n - q.period) c
    places (inl a) (inl b) = rw (eq-eqb j i (omega arith)) (in' (omega (arith, own (omega arith))))
    places (inl a) (inr b) = apart (λ e. omega arith) (le-or-lt q.period r.period) (le-or-lt r.period q.period) (inl a)
    places (inr a) b = apart (λ e. omega arith) (le-or-lt q.period r.period) (le-or-lt r.period q.period) (inr a)

asked-from : (j : ℕ) (qs : List Row) (i : ℕ) (r : Row) (l : ℕ) → ((k : ℕ) → k < length qs → j + k ≡ i → (row_at qs k).period ≡ r.period)
    → asked_from j qs i r l ≡ above_called r.period (suc i) j qs l
unfolding asked_from above_called
asked-from j [] i r l own = refl
asked-from j (q ∷ qs) i r l own =
    omega (
      arith,
      row-share i j (called_by l q) r q (λ e. own 0 (omega arith) (omega arith)),
      asked-from (suc j) qs i r l (λ k h e. own (suc k) (omega arith) (omega arith)),
    )

pub asked_is : (ts hs : List Row) (i l : ℕ) → asked ts hs i l ≡ called hs l + above_called (row_at ts i).period (suc i) 0 ts l
unfolding asked
asked_is ts hs i l =
    omega (arith, asked-from 0 ts i (row_at ts i) l (λ k h e. ap (λ (m : ℕ). (row_at ts m).period) (sym (zero-add k) ∙ e)))

-- So a response is a length with room.
pub response-roomy : (ts hs : List Row) (i : ℕ) → 0 < response ts hs i → Roomy ts hs i (response ts hs i)
response-roomy ts hs i some =
    let m : Meets ts hs i (response ts hs i) = response-meets ts hs i some in
    record { some = m.from_one; in-time = m.in-time; room = omega (arith, m.room, asked_is ts hs i (response ts hs i)) }
