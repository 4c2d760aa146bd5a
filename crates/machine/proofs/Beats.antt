-- The arrivals by the clock are the full ones: under them a row's next legal arrival is always the first multiple of its period from the clock on.
--   OnBeat t x                the next arrival of row x is that multiple, from t on; OnBeats of each row
--   Beating ts hs t xs ys     tasks xs and handlers ys are the table's, and on beat at clock t
use mathlib.Core.Bool.{Bool, true, false}
use mathlib.Core.List.{List, [], ◌∷◌}
use mathlib.Core.Logic.{◌⊎◌, inl, inr}
use mathlib.Core.Path.{◌≡◌, refl, sym, ap, ap₂, subst, ◌∙◌}
use native.Mathlib.Nat.{zero-mod, add-mod_right, mod-add-mod, mod-eq_of_lt, zero-add}
use native.Mathlib.Omega.{arith}
use borrow.Author.Tests.{eq-eqb, ne_eqb}
use lib.Dec.{eqb}
use lib.ListN.{length}
use Prim.Native.Nat.{ℕ, zero, suc, ◌+◌, ◌-◌, ◌%◌, ◌≤◌, ◌<◌}
use Rattle.demand.specs.Rows.{Row, Positive}
use Rattle.demand.specs.Tests.{pick}
use Rattle.demand.proofs.Divide.{le-or-lt}
use Rattle.machine.specs.Live.{Live, idle, arrive, arrive_all}
use Rattle.machine.specs.Machine.{share}
use Rattle.machine.specs.Schedules.{beat, beats, RanOne, ran-none, ran-here, ran-later, Gave}
use Rattle.machine.specs.Inside.Legal.{table_of, LegalAll}
use Rattle.machine.proofs.FullArrivals.{full, arrived, full-none, full-some, full-legal}
use Rattle.machine.proofs.Invariant.{arrive-table, idle-table}
use Rattle.machine.proofs.Room.{share_in, share-out}
use Rattle.machine.proofs.Sync.{ran-table, gave-tasks, gave-handlers}

-- Said of rows with a cost: one without never arrives.
pub record OnBeat (t : ℕ) (x : Live) : Type 0 where
  pub from : 0 < x.row.cost → t ≤ x.next
  pub near : 0 < x.row.cost → x.next < t + x.row.period
  pub whole : 0 < x.row.cost → x.next % x.row.period ≡ 0

abbrev pub OnBeats : ℕ → List Live → Type 0
OnBeats t [] = Unit
OnBeats t (x ∷ xs) = OnBeat t x × OnBeats t xs

-- A number for each row.
pub beats-length : (t : ℕ) (rs : List Row) → length (beats t rs) ≡ length rs
unfolding beats
beats-length t [] = refl
beats-length t (r ∷ rs) = ap suc (beats-length t rs)

-- ---- the two arrivals are the same

-- A row without a cost brings nothing, by the test of full arrivals ..
share-none : (k : ℕ) → share k 0 ≡ 0
share-none zero = refl
share-none (suc k) = refl

-- .. and by the test of the clock.
serve-by-none : (b : Bool) → pick {A = ℕ} b 0 0 ≡ 0
serve-by-none true = refl
serve-by-none false = refl

-- No multiple of p lies strictly between t and t + p where t is one.
pub between : (t n p : ℕ) → t < n → n < t + p → n % p ≡ 0 → t % p ≡ 0 → ⊥
between t n p l h en et =
    let d : ℕ = n - t in
    let sum : t + d ≡ n = omega arith in
    let same : (t % p + d) % p ≡ n % p = mod-add-mod t p d ∙ ap (λ (z : ℕ). z % p) sum in
    let rest : d % p ≡ n % p = rw (et, zero-add d) at same in
    omega (arith, mod-eq_of_lt {n = d} {m = p} (omega arith))

-- On beat a row may arrive at t exactly where its period divides t.
full-beat : (t : ℕ) (x : Live) → OnBeat t x → share (suc t - x.next) x.row.cost ≡ beat t x.row
full-beat t x b = by-cost x.row.cost refl
  where
    p : ℕ
    p = x.row.period

    by-cost : (c : ℕ) → x.row.cost ≡ c → share (suc t - x.next) c ≡ pick (eqb (t % p) 0) c 0
    by-cost zero e = share-none (suc t - x.next) ∙ sym (serve-by-none (eqb (t % p) 0))
    by-cost (suc c) e = go (le-or-lt x.next t)
      where
        pos : 0 < x.row.cost
        pos = omega arith

        go : (x.next ≤ t) ⊎ (t < x.next) → share (suc t - x.next) (suc c) ≡ pick (eqb (t % p) 0) (suc c) 0
        go (inl h) =
            let now : x.next ≡ t = omega (arith, b.from pos) in
            let divides : t % p ≡ 0 = rw now at (b.whole pos) in
            rw (eq-eqb (t % p) 0 divides) (share_in (suc t) x.next (suc c) (omega arith))
        go (inr h) = rw (ne_eqb (t % p) 0 (λ divides. between t x.next p h (b.near pos) (b.whole pos) divides)) (share-out (suc t) x.next (suc c) h)

-- So for all rows.
pub full-beats : (t : ℕ) (xs : List Live) → OnBeats t xs → full t xs ≡ beats t (table_of xs)
unfolding full beats table_of
full-beats t [] b = refl
full-beats t (x ∷ xs) b = ap₂ (λ (w : ℕ) (ws : List ℕ). w ∷ ws) (full-beat t x b.0) (full-beats t xs b.1)

-- ---- rows stay on beat

-- An arrival at t comes at a multiple and puts the next a period on; without one the next is not yet.
row-beats : (t w : ℕ) (x : Live) → 0 < x.row.period → OnBeat t x → share (suc t - x.next) x.row.cost ≡ w → OnBeat (suc t) (arrive t w x)
row-beats t zero x p b e =
    record {
      from = λ c. full-none t x.next x.row.cost c e;
      near = λ c. omega (arith, b.near c);
      whole = b.whole;
    }
row-beats t (suc w) x p b e =
    let some : (x.next ≤ t) × (x.row.cost ≡ suc w) = full-some t x.next x.row.cost w e in
    record {
      from = λ c. omega arith;
      near = λ c. omega arith;
      whole = λ c.
          let now : x.next ≡ t = omega (arith, some, b.from c) in
          add-mod_right t x.row.period ∙ (rw now at (b.whole c));
    }

-- So for all rows.
pub beats-arrived : (t : ℕ) (xs : List Live) → Positive (table_of xs) → OnBeats t xs → OnBeats (suc t) (arrived t xs)
unfolding arrive_all full table_of
beats-arrived t [] p b = tt
beats-arrived t (x ∷ xs) p b =
    (row-beats t (share (suc t - x.next) x.row.cost) x p.0 b.0 refl, beats-arrived t xs p.1 b.1)

-- Running moves no next arrival.
pub ran-beats : {xs ys : List Live} (t : ℕ) → RanOne xs ys → OnBeats t xs → OnBeats t ys
ran-beats t ran-none b = b
ran-beats t (ran-here n e) b = (record { from = b.0.from; near = b.0.near; whole = b.0.whole }, b.1)
ran-beats t (ran-later r) b = (b.0, ran-beats t r b.1)

-- 0 is a multiple of every period.
pub idle-beats : (rs : List Row) → Positive rs → OnBeats 0 (idle rs)
unfolding idle
idle-beats [] p = tt
idle-beats (r ∷ rs) p = (record { from = λ c. omega arith; near = λ c. omega arith; whole = λ c. zero-mod r.period }, idle-beats rs p.1)

-- ---- so is every state of a run of those arrivals, whoever gets the ticks

pub record Beating (ts hs : List Row) (t : ℕ) (xs ys : List Live) : Type 0 where
  pub tasks-are : table_of xs ≡ ts
  pub handlers-are : table_of ys ≡ hs
  pub tasks-beat : OnBeats t xs
  pub handlers-beat : OnBeats t ys

module _ (ts hs : List Row) {t : ℕ} {xs ys : List Live} (on : Beating ts hs t xs ys) where
  -- On beat, the full arrivals are those by the clock: of tasks ..
  pub tasks-full-beats : full t xs ≡ beats t ts
  tasks-full-beats = full-beats t xs on.tasks-beat ∙ ap (beats t) on.tasks-are

  -- .. and of handlers.
  pub handlers-full-beats : full t ys ≡ beats t hs
  handlers-full-beats = full-beats t ys on.handlers-beat ∙ ap (beats t) on.handlers-are

  -- The arrivals by the clock are legal.
  pub beating-legal : LegalAll t (beats t ts) xs × LegalAll t (beats t hs) ys
  beating-legal = (
    subst (λ (ws : List ℕ). LegalAll t ws xs) tasks-full-beats (full-legal t xs),
    subst (λ (ws : List ℕ). LegalAll t ws ys) handlers-full-beats (full-legal t ys),
  )

  -- A tick of them is a tick of full arrivals.
  pub beating-full : {xs' ys' : List Live} → Gave (arrive_all t (beats t ts) xs) (arrive_all t (beats t hs) ys) xs' ys' → Gave (arrived t xs) (arrived t ys) xs' ys'
  beating-full g = rw (tasks-full-beats, handlers-full-beats) g

  -- And leaves the table on beat.
  pub beating-gave : Positive ts → Positive hs → {xs' ys' : List Live}
      → Gave (arrive_all t (beats t ts) xs) (arrive_all t (beats t hs) ys) xs' ys' → Beating ts hs (suc t) xs' ys'
  beating-gave pt ph g =
      let full-tick = beating-full g in
      record {
        tasks-are = ran-table (gave-tasks full-tick) ∙ arrive-table t (full t xs) xs ∙ on.tasks-are;
        handlers-are = ran-table (gave-handlers full-tick) ∙ arrive-table t (full t ys) ys ∙ on.handlers-are;
        tasks-beat = ran-beats (suc t) (gave-tasks full-tick) (beats-arrived t xs (rw on.tasks-are pt) on.tasks-beat);
        handlers-beat = ran-beats (suc t) (gave-handlers full-tick) (beats-arrived t ys (rw on.handlers-are ph) on.handlers-beat);
      }

-- A fresh table is on beat.
pub beating-fresh : (ts hs : List Row) → Positive ts → Positive hs → Beating ts hs 0 (idle ts) (idle hs)
beating-fresh ts hs pt ph =
    record { tasks-are = idle-table ts; handlers-are = idle-table hs; tasks-beat = idle-beats ts pt; handlers-beat = idle-beats hs ph }
