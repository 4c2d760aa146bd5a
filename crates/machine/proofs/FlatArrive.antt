-- Arrivals and lateness over the lists that a run holds, by place.
--   Arrived t w r n d o n' d' o'   an arrival of w at t makes n', d', o' of row r's next arrival n, deadline d and work owed o
use mathlib.Core.List.{List, [], ◌∷◌}
use mathlib.Core.Path.{◌≡◌, refl, ap₂}
use native.Mathlib.Omega.{arith}
use lib.ListN.{length, get_or}
use Prim.Native.Nat.{ℕ, zero, suc, ◌+◌, ◌≤◌, ◌<◌}
use Rattle.demand.specs.Rows.{Row, row_at}
use Rattle.machine.specs.Live.{Live, arrive, arrive_all, OnTime}
use Rattle.machine.specs.Places.{live_of}
use Rattle.machine.specs.Inside.Legal.{Legal, LegalAll}
use Rattle.machine.specs.Inside.Listed.{Listed}
use Rattle.machine.proofs.Flat.{fits-rest}

pub record Arrived (t w : ℕ) (r : Row) (n d o n' d' o' : ℕ) : Type 0 where
  pub stays : w ≡ 0 → n' ≡ n
  pub moves : 0 < w → n' ≡ t + r.period
  pub due-stays : w ≡ 0 → d' ≡ d
  pub due-moves : 0 < w → d' ≡ t + r.deadline
  pub adds : o' ≡ o + w

-- Those are the numbers of the row after its arrival.
arrive-one : (t w : ℕ) (r : Row) (n d o n' d' o' : ℕ) → Arrived t w r n d o n' d' o'
    → arrive t w (record { row = r; next = n; due = d; owed = o }) ≡ record { row = r; next = n'; due = d'; owed = o' }
arrive-one t zero r n d o n' d' o' a =
    let en : n' ≡ n = a.stays refl in
    let ed : d' ≡ d = a.due-stays refl in
    let eo : o' ≡ o = omega (arith, a.adds) in
    rw (en, ed, eo)
arrive-one t (suc w) r n d o n' d' o' a =
    let en : n' ≡ t + r.period = a.moves (omega arith) in
    let ed : d' ≡ t + r.deadline = a.due-moves (omega arith) in
    rw (en, ed, a.adds)

-- So, place by place, of the lists after the arrivals.
pub arrive-flat : (t : ℕ) (ws : List ℕ) (rs : List Row) (ns ds os ns' ds' os' : List ℕ)
    → length ws ≡ length rs → Listed rs ns ds os → Listed rs ns' ds' os'
    → ((j : ℕ) → j < length rs → Arrived t (get_or ws j 0) (row_at rs j) (get_or ns j 0) (get_or ds j 0) (get_or os j 0) (get_or ns' j 0) (get_or ds' j 0) (get_or os' j 0))
    → arrive_all t ws (live_of rs ns ds os) ≡ live_of rs ns' ds' os'
unfolding arrive_all live_of
arrive-flat t [] [] ns ds os ns' ds' os' e f f' h = refl
arrive-flat t (w ∷ ws) [] ns ds os ns' ds' os' e f f' h = refl
arrive-flat t [] (r ∷ rs) ns ds os ns' ds' os' e f f' h = absurd (omega arith)
arrive-flat t (w ∷ ws) (r ∷ rs) [] ds os ns' ds' os' e f f' h = absurd (omega (arith, f.nexts))
arrive-flat t (w ∷ ws) (r ∷ rs) (n ∷ ns) [] os ns' ds' os' e f f' h = absurd (omega (arith, f.dues))
arrive-flat t (w ∷ ws) (r ∷ rs) (n ∷ ns) (d ∷ ds) [] ns' ds' os' e f f' h = absurd (omega (arith, f.owes))
arrive-flat t (w ∷ ws) (r ∷ rs) (n ∷ ns) (d ∷ ds) (o ∷ os) [] ds' os' e f f' h = absurd (omega (arith, f'.nexts))
arrive-flat t (w ∷ ws) (r ∷ rs) (n ∷ ns) (d ∷ ds) (o ∷ os) (n' ∷ ns') [] os' e f f' h = absurd (omega (arith, f'.dues))
arrive-flat t (w ∷ ws) (r ∷ rs) (n ∷ ns) (d ∷ ds) (o ∷ os) (n' ∷ ns') (d' ∷ ds') [] e f f' h = absurd (omega (arith, f'.owes))
arrive-flat t (w ∷ ws) (r ∷ rs) (n ∷ ns) (d ∷ ds) (o ∷ os) (n' ∷ ns') (d' ∷ ds') (o' ∷ os') e f f' h =
    ap₂ (λ (x : Live) (xs : List Live). x ∷ xs)
    (arrive-one t w r n d o n' d' o' (h 0 (omega arith)))
    (arrive-flat t ws rs ns ds os ns' ds' os' (omega arith)
    (fits-rest f)
    (fits-rest f')
    (λ j l. h (suc j) (omega arith)))

-- Arrivals that are legal place by place are legal.
legal-one : (t w : ℕ) (x : Live) → (0 < w → (x.next ≤ t) × (w ≤ x.row.cost)) → Legal t w x
legal-one t zero x h = tt
legal-one t (suc w) x h = h (omega arith)

-- So for all places.
pub legal-flat : (t : ℕ) (ws : List ℕ) (rs : List Row) (ns ds os : List ℕ)
    → ((j : ℕ) → j < length ws → 0 < get_or ws j 0 → (get_or ns j 0 ≤ t) × (get_or ws j 0 ≤ (row_at rs j).cost)) → LegalAll t ws (live_of rs ns ds os)
unfolding live_of
legal-flat t [] rs ns ds os h = tt
legal-flat t (w ∷ ws) [] ns ds os h = tt
legal-flat t (w ∷ ws) (r ∷ rs) [] ds os h = tt
legal-flat t (w ∷ ws) (r ∷ rs) (n ∷ ns) [] os h = tt
legal-flat t (w ∷ ws) (r ∷ rs) (n ∷ ns) (d ∷ ds) [] h = tt
legal-flat t (w ∷ ws) (r ∷ rs) (n ∷ ns) (d ∷ ds) (o ∷ os) h =
    (legal-one t w (record { row = r; next = n; due = d; owed = o }) (h 0 (omega arith)), legal-flat t ws rs ns ds os (λ j l p. h (suc j) (omega arith) p))

-- On time: at no place is work owed at its deadline.
pub on-time-flat : (t : ℕ) (rs : List Row) (ns ds os : List ℕ) → Listed rs ns ds os → OnTime t (live_of rs ns ds os)
    → (j : ℕ) → j < length rs → get_or ds j 0 ≡ t → get_or os j 0 ≡ 0
unfolding live_of
on-time-flat t [] ns ds os f on j l e = absurd (omega arith)
on-time-flat t (r ∷ rs) [] ds os f on j l e = absurd (omega (arith, f.nexts))
on-time-flat t (r ∷ rs) (n ∷ ns) [] os f on j l e = absurd (omega (arith, f.dues))
on-time-flat t (r ∷ rs) (n ∷ ns) (d ∷ ds) [] f on j l e = absurd (omega (arith, f.owes))
on-time-flat t (r ∷ rs) (n ∷ ns) (d ∷ ds) (o ∷ os) f on zero l e = on.0 e
on-time-flat t (r ∷ rs) (n ∷ ns) (d ∷ ds) (o ∷ os) f on (suc j) l e =
    on-time-flat t rs ns ds os (fits-rest f) on.1 j (omega arith) e
