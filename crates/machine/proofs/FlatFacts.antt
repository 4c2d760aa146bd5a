-- Facts of rows at work from facts at each place, and the reverse.
use mathlib.Core.List.{List, [], ◌∷◌}
use mathlib.Core.Path.{◌≡◌, refl}
use native.Mathlib.Nat.{not-suc-le-zero}
use native.Mathlib.Omega.{arith}
use Prim.Native.Nat.{ℕ, zero, suc, ◌≤◌, ◌<◌}
use lib.ListN.{length, get_or}
use Rattle.demand.specs.Rows.{Row, row_at}
use Rattle.machine.specs.Live.{Live, idle, owed_all, OnTime}
use Rattle.machine.specs.Places.{live_of}
use Rattle.machine.specs.Inside.Legal.{Legal, LegalAll}
use Rattle.machine.specs.Inside.Listed.{Listed}
use Rattle.machine.proofs.Flat.{fits-rest}

-- At no place is work owed at its deadline: on time.
pub flat-on-time : (t : ℕ) (rs : List Row) (ns ds os : List ℕ) → ((j : ℕ) → j < length rs → get_or ds j 0 ≡ t → get_or os j 0 ≡ 0) → OnTime t (live_of rs ns ds os)
unfolding live_of
flat-on-time t [] ns ds os h = tt
flat-on-time t (r ∷ rs) [] ds os h = tt
flat-on-time t (r ∷ rs) (n ∷ ns) [] os h = tt
flat-on-time t (r ∷ rs) (n ∷ ns) (d ∷ ds) [] h = tt
flat-on-time t (r ∷ rs) (n ∷ ns) (d ∷ ds) (o ∷ os) h = (h 0 (omega arith), flat-on-time t rs ns ds os (λ j l e. h (suc j) (omega arith) e))

-- A legal arrival is not too soon and not too much.
one-legal : (t w : ℕ) (x : Live) → Legal t w x → 0 < w → (x.next ≤ t) × (w ≤ x.row.cost)
one-legal t zero x legal some = absurd (not-suc-le-zero some)
one-legal t (suc w) x legal some = legal

-- So at each place, where all are legal.
pub flat-legal : (t : ℕ) (ws : List ℕ) (rs : List Row) (ns ds os : List ℕ) → length ws ≡ length rs → Listed rs ns ds os → LegalAll t ws (live_of rs ns ds os)
    → (j : ℕ) → j < length rs → 0 < get_or ws j 0 → (get_or ns j 0 ≤ t) × (get_or ws j 0 ≤ (row_at rs j).cost)
unfolding live_of
flat-legal t ws [] ns ds os e f legal j l some = absurd (not-suc-le-zero l)
flat-legal t [] (r ∷ rs) ns ds os e f legal j l some = absurd (omega arith)
flat-legal t (w ∷ ws) (r ∷ rs) [] ds os e f legal j l some = absurd (omega (arith, f.nexts))
flat-legal t (w ∷ ws) (r ∷ rs) (n ∷ ns) [] os e f legal j l some = absurd (omega (arith, f.dues))
flat-legal t (w ∷ ws) (r ∷ rs) (n ∷ ns) (d ∷ ds) [] e f legal j l some = absurd (omega (arith, f.owes))
flat-legal t (w ∷ ws) (r ∷ rs) (n ∷ ns) (d ∷ ds) (o ∷ os) e f legal zero l some = one-legal t w (record { row = r; next = n; due = d; owed = o }) legal.0 some
flat-legal t (w ∷ ws) (r ∷ rs) (n ∷ ns) (d ∷ ds) (o ∷ os) e f legal (suc j) l some = flat-legal t ws rs ns ds os (omega arith) (fits-rest f) legal.1 j (omega arith) some

-- What a place is owed is part of what is owed in all.
pub flat-owed : (rs : List Row) (ns ds os : List ℕ) (j : ℕ) → Listed rs ns ds os → j < length rs → get_or os j 0 ≤ owed_all (live_of rs ns ds os)
unfolding live_of owed_all
flat-owed [] ns ds os j f l = absurd (not-suc-le-zero l)
flat-owed (r ∷ rs) [] ds os j f l = absurd (omega (arith, f.nexts))
flat-owed (r ∷ rs) (n ∷ ns) [] os j f l = absurd (omega (arith, f.dues))
flat-owed (r ∷ rs) (n ∷ ns) (d ∷ ds) [] j f l = absurd (omega (arith, f.owes))
flat-owed (r ∷ rs) (n ∷ ns) (d ∷ ds) (o ∷ os) zero f l = omega arith
flat-owed (r ∷ rs) (n ∷ ns) (d ∷ ds) (o ∷ os) (suc j) f l = omega (arith, flat-owed rs ns ds os j (fits-rest f) (omega arith))

-- Nothing owed, no arrival and no deadline yet at any place: idle rows.
pub flat-idle : (rs : List Row) (ns ds os : List ℕ) → Listed rs ns ds os → ((j : ℕ) → j < length rs → (get_or ns j 0 ≡ 0) × (get_or ds j 0 ≡ 0) × (get_or os j 0 ≡ 0))
    → live_of rs ns ds os ≡ idle rs
unfolding live_of idle
flat-idle [] ns ds os f h = refl
flat-idle (r ∷ rs) [] ds os f h = absurd (omega (arith, f.nexts))
flat-idle (r ∷ rs) (n ∷ ns) [] os f h = absurd (omega (arith, f.dues))
flat-idle (r ∷ rs) (n ∷ ns) (d ∷ ds) [] f h = absurd (omega (arith, f.owes))
flat-idle (r ∷ rs) (n ∷ ns) (d ∷ ds) (o ∷ os) f h =
    let none = h 0 (omega arith) in
    let rest = flat-idle rs ns ds os (fits-rest f) (λ j l. h (suc j) (omega arith)) in
    λ i. record { row = r; next = none.0 i; due = none.1 i; owed = none.2 i } ∷ rest i
