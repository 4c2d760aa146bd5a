-- Full arrivals, a device of the proofs: each row arrives as soon as it may. They are legal, and lose nothing that can be due or called for.
--   full t xs      == each row's cost where its next legal arrival is not after t, else 0
--   arrived t xs   == the rows after their full arrivals at t
--   Settled t xs   no task is owed work at its deadline or behind it
use mathlib.Core.List.{List, [], ◌∷◌}
use mathlib.Core.Logic.{◌⊎◌, inl, inr}
use mathlib.Core.Path.{◌≡◌, refl}
use native.Mathlib.Nat.{mul-zero, mul-suc, mul-le-mul_left, div-eq_of_lt-le}
use native.Mathlib.Omega.{arith}
use Prim.Native.Nat.{ℕ, zero, suc, ◌+◌, ◌-◌, ◌≤◌, ◌<◌}
use Rattle.demand.specs.Demands.{ceil}
use Rattle.demand.specs.Rows.{Row, Positive, Sound, Valid}
use Rattle.demand.proofs.Divide.{jobs, le-or-lt, jobs-arrive, jobs-none, ceil-mono, ceil-sub}
use Rattle.machine.specs.Live.{Live, due_of, idle, arrive, arrive_all, OnTime}
use Rattle.machine.specs.Machine.{share, before_by, before}
use Rattle.machine.specs.Schedules.{RanOne, ran-none, ran-here, ran-later}
use Rattle.machine.specs.Inside.Legal.{table_of, Legal, LegalAll}
use Rattle.machine.proofs.Ordered.{Ordered}
use Rattle.machine.proofs.Room.{future, callable, due_in, calls, share_in, share-out}

unfoldable pub full : ℕ → List Live → List ℕ
full t [] = []
full t (x ∷ xs) = share (suc t - x.next) x.row.cost ∷ full t xs

abbrev pub arrived : ℕ → List Live → List Live
arrived t xs = arrive_all t (full t xs) xs

-- No arrival of a row with a cost: it is not yet time.
pub full-none : (t m c : ℕ) → 0 < c → share (suc t - m) c ≡ 0 → t < m
full-none t m c pos e = go (le-or-lt m t)
  where
    go : (m ≤ t) ⊎ (t < m) → t < m
    go (inl h) = absurd (omega (arith, share_in (suc t) m c (omega arith)))
    go (inr h) = h

-- An arrival: it is time, and it brings the cost.
pub full-some : (t m c n : ℕ) → share (suc t - m) c ≡ suc n → (m ≤ t) × (c ≡ suc n)
full-some t m c n e = go (le-or-lt m t)
  where
    go : (m ≤ t) ⊎ (t < m) → (m ≤ t) × (c ≡ suc n)
    go (inl h) = (h, omega (arith, share_in (suc t) m c (omega arith)))
    go (inr h) = absurd (omega (arith, share-out (suc t) m c (omega arith)))

-- So full arrivals are legal, row by row.
full-legal-row : (t w : ℕ) (x : Live) → share (suc t - x.next) x.row.cost ≡ w → Legal t w x
full-legal-row t zero x e = tt
full-legal-row t (suc w) x e =
    let some : (x.next ≤ t) × (x.row.cost ≡ suc w) = full-some t x.next x.row.cost w e in
    (some.0, omega (arith, some.1))

-- So for all rows.
pub full-legal : (t : ℕ) (xs : List Live) → LegalAll t (full t xs) xs
unfolding full
full-legal t [] = tt
full-legal t (x ∷ xs) = (full-legal-row t (share (suc t - x.next) x.row.cost) x refl, full-legal t xs)

-- ---- what is settled stays so until its next deadline

abbrev pub Settled : ℕ → List Live → Type 0
Settled t [] = Unit
Settled t (x ∷ xs) = (due_of x ≤ t → x.owed ≡ 0) × Settled t xs

-- An arrival has its deadline ahead.
row_settled : (t w : ℕ) (x : Live) → Sound x.row → (due_of x ≤ t → x.owed ≡ 0) → due_of (arrive t w x) ≤ t → (arrive t w x).owed ≡ 0
row_settled t zero x sound s h = s h
row_settled t (suc w) x sound s h = absurd (omega (arith, sound))

-- So for all tasks.
pub settled-arrive : (t : ℕ) (ws : List ℕ) (xs : List Live) → Valid (table_of xs) → Settled t xs → Settled t (arrive_all t ws xs)
unfolding arrive_all table_of
settled-arrive t [] xs v s = s
settled-arrive t (w ∷ ws) [] v s = tt
settled-arrive t (w ∷ ws) (x ∷ xs) v s = (row_settled t w x v.0 s.0, settled-arrive t ws xs v.1 s.1)

-- On time at the next clock too: settled there.
pub settled-on-time : (t : ℕ) (xs : List Live) → Settled t xs → OnTime (suc t) xs → Settled (suc t) xs
settled-on-time t [] s on = tt
settled-on-time t (x ∷ xs) s on = (λ h. go (le-or-lt (due_of x) t) h, settled-on-time t xs s.1 on.1)
  where
    go : (due_of x ≤ t) ⊎ (t < due_of x) → due_of x ≤ suc t → x.owed ≡ 0
    go (inl l) h = s.0 l
    go (inr l) h = on.0 (omega arith)

-- Whoever runs is owed work, and so was not behind its deadline.
pub ran_settled : {xs ys : List Live} (t : ℕ) → RanOne xs ys → Settled t xs → Settled t ys
ran_settled t ran-none s = s
ran_settled t (ran-here n e) s = (λ h. absurd (omega (arith, s.0 h)), s.1)
ran_settled t (ran-later r) s = (s.0, ran_settled t r s.1)

-- Idle rows are owed nothing at all.
pub idle-settled : (t : ℕ) (rs : List Row) → Settled t (idle rs)
unfolding idle
idle-settled t [] = tt
idle-settled t (r ∷ rs) = (λ h. refl, idle-settled t rs)

-- Settled at t: nothing is due by then.
pub settled_before : (t : ℕ) (xs : List Live) → Settled t xs → before (suc t) xs ≡ 0
unfolding before_by
settled_before t [] settled = refl
settled_before t (x ∷ xs) settled = go (le-or-lt (suc t) (due_of x)) (settled_before t xs settled.1)
  where
    go : (suc t ≤ due_of x) ⊎ (due_of x < suc t) → before (suc t) xs ≡ 0 → share (suc t - due_of x) x.owed + before (suc t) xs ≡ 0
    go (inl h) rest = omega (arith, share-out (suc t) (due_of x) x.owed h)
    go (inr h) rest = omega (arith, share_in (suc t) (due_of x) x.owed h, settled.0 (omega arith))

-- ---- nothing is lost

-- Nothing that a task can have due is lost by its full arrival on time.
task-full : (t k w : ℕ) (x : Live) → Sound x.row → x.due ≤ x.next → (due_of x ≤ t → x.owed ≡ 0) → share (suc t - x.next) x.row.cost ≡ w
    → due_in t k x ≤ due_in t k (arrive t w x)
task-full t k zero x sound ordered settled e = omega arith
task-full t k (suc w) x sound ordered settled e = go (le-or-lt d k)
  where
    p : ℕ
    p = x.row.period

    d : ℕ
    d = x.row.deadline

    c : ℕ
    c = x.row.cost

    some : (x.next ≤ t) × (c ≡ suc w)
    some = full-some t x.next c w e

    was : share (suc (t + k) - due_of x) x.owed ≡ 0
    was = omega (arith, share_in (suc (t + k)) (due_of x) x.owed (omega (arith, ordered, some)), settled (omega (arith, ordered, some)))

    now : k - (x.next - t) ≡ k
    now = omega (arith, some)

    then : k - (t + p - t) ≡ k - p
    then = omega arith

    go : (d ≤ k) ⊎ (k < d) → due_in t k x ≤ due_in t k (arrive t (suc w) x)
    go (inl h) =
        rw (was, now, then, share_in (suc (t + k)) (t + d) (x.owed + suc w) (omega (arith, sound)), ← jobs-arrive k d p sound.some sound.fits h)
        (omega (arith, some, mul-suc c (jobs (k - p) d p)))
    go (inr h) = rw (was, now, jobs-none k d p h sound.fits, mul-zero c) (omega arith)

-- So for all tasks.
pub tasks-full : (t k : ℕ) (xs : List Live) → Valid (table_of xs) → Ordered xs → Settled t xs
    → before (suc (t + k)) xs + future t k xs ≤ before (suc (t + k)) (arrived t xs) + future t k (arrived t xs)
unfolding arrive_all full before_by future table_of
tasks-full t k [] valid ordered settled = omega arith
tasks-full t k (x ∷ xs) valid ordered settled =
    omega (
      arith,
      task-full t k (share (suc t - x.next) x.row.cost) x valid.0 ordered.0 settled.0 refl,
      tasks-full t k xs valid.1 ordered.1 settled.1,
    )

-- A period holds one arrival, rounded up or not.
ceil-leave : (a l : ℕ) → 0 < a → ceil l a ≤ suc (ceil (l - a) a)
ceil-leave a l pos =
    let longer : ceil l a ≤ ceil (a + (l - a)) a = ceil-mono a (omega arith) in
    let one : ceil a a ≡ 1 = div-eq_of_lt-le a (omega arith) (omega arith) in
    omega (arith, ceil-sub a a (l - a) pos)

-- Nothing that a handler can be called for is lost by its full arrival.
pub handler-full : (t l w : ℕ) (x : Live) → 0 < x.row.period → share (suc t - x.next) x.row.cost ≡ w → calls t l x ≤ calls t l (arrive t w x)
handler-full t l zero x pos e = omega arith
handler-full t l (suc w) x pos e =
    let some : (x.next ≤ t) × (x.row.cost ≡ suc w) = full-some t x.next x.row.cost w e in
    let now : l - (x.next - t) ≡ l = omega (arith, some) in
    let then : l - (t + x.row.period - t) ≡ l - x.row.period = omega arith in
    rw (now, then)
    (omega (
      arith,
      some,
      mul-suc x.row.cost (ceil (l - x.row.period) x.row.period),
      mul-le-mul_left x.row.cost (ceil-leave x.row.period l pos),
    ))

-- So for all handlers.
pub handlers-full : (t l : ℕ) (xs : List Live) → Positive (table_of xs) → callable t xs l ≤ callable t (arrived t xs) l
unfolding arrive_all full callable table_of
handlers-full t l [] pos = omega arith
handlers-full t l (x ∷ xs) pos =
    omega (arith, handler-full t l (share (suc t - x.next) x.row.cost) x pos.0 refl, handlers-full t l xs pos.1)
