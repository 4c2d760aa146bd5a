-- Fixed priorities, the other way: a task for which no length within its deadline has room is late at its first deadline in the synchronous run by priority.
--   wanted ts hs i k            == what is asked of k ticks for task i, in the proofs' terms
--   full_at t s                  == the full arrivals of state s at tick t
--   Undone ts hs i a t xs ys    the first job of task i is not done at clock t, and all that is asked is at most t and what is, or can yet be, called for
use mathlib.Core.List.{List}
use mathlib.Core.Path.{◌≡◌, refl, ap, subst, ◌∙◌}
use native.Mathlib.Nat.{zero-add}
use native.Mathlib.Omega.{arith}
use Prim.Native.Nat.{ℕ, zero, suc, ◌+◌, ◌-◌, ◌≤◌, ◌<◌}
use lib.ListN.{length}
use Rattle.demand.specs.Demands.{called}
use Rattle.demand.specs.Rows.{Row, row_at, Positive, Sound, Valid}
use Rattle.demand.proofs.Demands.{called-zero}
use Rattle.demand.proofs.Inside.Places.{each_at}
use Rattle.demand.proofs.Sums.{valid-positive}
use Rattle.machine.specs.Places.{at_place}
use Rattle.machine.specs.Live.{Live, due_of, idle, arrive, owed_all, OnTime, period_of}
use Rattle.machine.specs.Machine.{State, Arrivals, fresh_state, share, serve, given_by, tick_by, beats_at, sync_by}
use Rattle.machine.specs.Inside.Legal.{table_of}
use Rattle.machine.proofs.Beats.{OnBeats, beats-arrived, ran-beats, idle-beats, Beating, tasks-full-beats, handlers-full-beats}
use Rattle.machine.proofs.FullArrivals.{full, arrived, handlers-full}
use Rattle.machine.proofs.Invariant.{arrive-table, idle-table}
use Rattle.machine.proofs.Least.{sync-clock, sync-beating}
use Rattle.machine.proofs.No.{callable-same, ran-callable, idle-callable}
use Rattle.machine.proofs.Room.{callable-le-called, share_in, share-out}
use Rattle.machine.proofs.Sync.{serve-by-ran, serve-ran, ran-table}
use Rattle.machine.proofs.Priority.Above.{fixed, above_owed, above_called, fixed-above, ran-above-future, above-le-called}
use Rattle.machine.proofs.Priority.FullAbove.{ran-above, above-full, above_same, above-called-zero, idle-above-future, at-full, arrive-some, arrive_none, idle-place, late-place}
use Rattle.machine.proofs.Priority.Kept.{pressing}
use Rattle.machine.proofs.Priority.Place.{at_row, own, table-length, fixed-at}

abbrev pub wanted : List Row → List Row → ℕ → ℕ → ℕ
wanted ts hs i k = called hs k + above_called (row_at ts i).period (suc i) 0 ts k

abbrev pub full_at : ℕ → State → Arrivals
full_at t s = record { to_tasks = full t s.tasks; to_handlers = full t s.handlers }

pub record Undone (ts hs : List Row) (i a t : ℕ) (xs ys : List Live) : Type 0 where
  pub tasks-are : table_of xs ≡ ts
  pub handlers-are : table_of ys ≡ hs
  pub tasks-beat : OnBeats a xs
  pub handlers-beat : OnBeats a ys
  pub asks : (k : ℕ) → wanted ts hs i (t + k) ≤ t + pressing (row_at ts i).period (suc i) t xs ys k
  pub some : 0 < (at_place i xs).owed
  pub first : (at_place i xs).next ≡ (row_at ts i).period
  pub ends : (at_place i xs).due ≡ (row_at ts i).deadline

module _ (ts hs : List Row) (vt : Valid ts) (ph : Positive hs) (i : ℕ) (place : i < length ts) (cost : 0 < (row_at ts i).cost)
    (crowded : (L : ℕ) → 0 < L → L ≤ (row_at ts i).deadline → L < wanted ts hs i L) where
  abbrev p : ℕ
  p = (row_at ts i).period

  sound : Sound (row_at ts i)
  sound = each_at Sound ts vt i place

  place_in : (xs : List Live) → table_of xs ≡ ts → i < length xs
  place_in xs e = omega (arith, ap length e, table-length xs, place)

  is_row : (xs : List Live) → table_of xs ≡ ts → (at_place i xs).row ≡ row_at ts i
  is_row xs e = at_row i xs ∙ ap (λ (rs : List Row). row_at rs i) e

  asks-full : (t : ℕ) (xs ys : List Live) → table_of xs ≡ ts → table_of ys ≡ hs
      → ((k : ℕ) → wanted ts hs i (t + k) ≤ t + pressing p (suc i) t xs ys k)
      → (k : ℕ) → wanted ts hs i (t + k) ≤ t + pressing p (suc i) t (arrived t xs) (arrived t ys) k
  asks-full t xs ys ex ey asks k =
      omega (
        arith,
        asks k,
        handlers-full t k ys (rw ey ph),
        above-full p (suc i) 0 t k xs (rw ex (valid-positive ts vt)),
      )

  begins : Undone ts hs i 1 0 (arrived 0 (idle ts)) (arrived 0 (idle hs))
  begins =
      record {
        tasks-are = arrive-table 0 (full 0 (idle ts)) (idle ts) ∙ idle-table ts;
        handlers-are = arrive-table 0 (full 0 (idle hs)) (idle hs) ∙ idle-table hs;
        tasks-beat = beats-arrived 0 (idle ts) (rw (idle-table ts) (valid-positive ts vt)) (idle-beats ts (valid-positive ts vt));
        handlers-beat = beats-arrived 0 (idle hs) (rw (idle-table hs) ph) (idle-beats hs ph);
        asks = asks-full 0 (idle ts) (idle hs) (idle-table ts) (idle-table hs)
            (λ k. rw (zero-add k) (omega (arith, idle-callable k hs, idle-above-future p (suc i) 0 k ts)));
        some = rw now both.0;
        first = rw now (both.1 ∙ zero-add p);
        ends = rw now (both.2 ∙ zero-add (row_at ts i).deadline);
      }
    where
      x : Live
      x = record { row = row_at ts i; next = 0; due = 0; owed = 0 }

      now : at_place i (arrived 0 (idle ts)) ≡ arrive 0 (share (suc 0 - 0) (row_at ts i).cost) x
      now =
          at-full 0 i (idle ts) (place_in (idle ts) (idle-table ts))
          ∙ ap (λ (y : Live). arrive 0 (share (suc 0 - y.next) y.row.cost) y) (idle-place i ts place)

      both : (0 < (arrive 0 (share (suc 0 - 0) (row_at ts i).cost) x).owed) × ((arrive 0 (share (suc 0 - 0) (row_at ts i).cost) x).next ≡ 0 + p) × ((arrive 0 (share (suc 0 - 0) (row_at ts i).cost) x).due ≡ 0 + (row_at ts i).deadline)
      both = arrive-some 0 (share (suc 0 - 0) (row_at ts i).cost) (row_at ts i).cost x (share_in 1 0 (row_at ts i).cost (omega arith)) cost

  arrives : (t : ℕ) (xs ys : List Live) → t < (row_at ts i).deadline → Undone ts hs i t t xs ys → Undone ts hs i (suc t) t (arrived t xs) (arrived t ys)
  arrives t xs ys h u =
      let stays : at_place i (arrived t xs) ≡ at_place i xs =
      at-full t i xs (place_in xs u.tasks-are)
      ∙ arrive_none t _ (at_place i xs) (share-out (suc t) (at_place i xs).next (at_place i xs).row.cost (omega (arith, u.first, sound.fits))) in
      record {
        tasks-are = arrive-table t (full t xs) xs ∙ u.tasks-are;
        handlers-are = arrive-table t (full t ys) ys ∙ u.handlers-are;
        tasks-beat = beats-arrived t xs (rw u.tasks-are (valid-positive ts vt)) u.tasks-beat;
        handlers-beat = beats-arrived t ys (rw u.handlers-are ph) u.handlers-beat;
        asks = asks-full t xs ys u.tasks-are u.handlers-are u.asks;
        some = rw stays u.some;
        first = rw stays u.first;
        ends = rw stays u.ends;
      }

  -- A tick to a handler.
  serves : (t : ℕ) (xs ys : List Live) → Undone ts hs i (suc t) t xs ys → Undone ts hs i (suc t) (suc t) xs (serve ys)
  serves t xs ys u =
      record {
        tasks-are = u.tasks-are;
        handlers-are = ran-table (serve-ran ys) ∙ u.handlers-are;
        tasks-beat = u.tasks-beat;
        handlers-beat = ran-beats (suc t) (serve-ran ys) u.handlers-beat;
        asks = λ k.
            let e : suc t + k ≡ t + suc k = omega arith in
            rw e
            (omega (
              arith,
              u.asks (suc k),
              callable-same t k ys u.handlers-beat,
              ran-callable (suc t) k (serve-ran ys),
              above_same p (suc i) 0 t k xs u.tasks-beat,
            ));
        some = u.some;
        first = u.first;
        ends = u.ends;
      }

  -- A tick to a task: not the last one of task i, for then all that is asked would be done.
  picks : (t : ℕ) (xs ys : List Live) → t < (row_at ts i).deadline → owed_all ys ≡ 0 → Undone ts hs i (suc t) t xs ys → Undone ts hs i (suc t) (suc t) (fixed xs) ys
  picks t xs ys h none u =
      record {
        tasks-are = ran-table (serve-by-ran period_of xs) ∙ u.tasks-are;
        handlers-are = u.handlers-are;
        tasks-beat = ran-beats (suc t) (serve-by-ran period_of xs) u.tasks-beat;
        handlers-beat = u.handlers-beat;
        asks = λ k.
            let e : suc t + k ≡ t + suc k = omega arith in
            rw e
            (omega (
              arith,
              u.asks (suc k),
              callable-same t k ys u.handlers-beat,
              ran-above p (suc i) 0 (serve-by-ran period_of xs),
              ran-above-future p (suc i) 0 (suc t) k (serve-by-ran period_of xs),
              above_same p (suc i) 0 t k xs u.tasks-beat,
            ));
        some = go (above_owed p i 0 xs) refl;
        first = (fixed-at i xs).next-is ∙ u.first;
        ends = (fixed-at i xs).due-is ∙ u.ends;
      }
    where
      own-was : above_owed p (suc i) 0 xs ≡ above_owed p i 0 xs + (at_place i xs).owed
      own-was = own p i i 0 (omega (arith, zero-add i)) xs (place_in xs u.tasks-are) (ap (λ (r : Row). r.period) (is_row xs u.tasks-are))

      own_is : above_owed p (suc i) 0 (fixed xs) ≡ above_owed p i 0 (fixed xs) + (at_place i (fixed xs)).owed
      own_is =
          own p i i 0 (omega (arith, zero-add i)) (fixed xs) (place_in (fixed xs) (ran-table (serve-by-ran period_of xs) ∙ u.tasks-are))
          (ap (λ (r : Row). r.period) (is_row (fixed xs) (ran-table (serve-by-ran period_of xs) ∙ u.tasks-are)))

      two : 2 ≤ above_owed p (suc i) 0 xs
      two =
          omega (
            arith,
            u.asks 1,
            crowded (t + 1) (omega arith) (omega arith),
            callable-same t 0 ys u.handlers-beat,
            callable-le-called (suc t) 0 ys,
            called-zero (table_of ys),
            above_same p (suc i) 0 t 0 xs u.tasks-beat,
            above-le-called p (suc i) 0 (suc t) 0 xs,
            above-called-zero p (suc i) 0 (table_of xs),
          )

      go : (b : ℕ) → above_owed p i 0 xs ≡ b → 0 < (at_place i (fixed xs)).owed
      go zero e = omega (arith, two, own-was, own_is, ran-above p (suc i) 0 (serve-by-ran period_of xs), fixed-above p i 0 xs)
      go (suc b) e = omega (arith, u.some, own-was, own_is, ran-above p (suc i) 0 (serve-by-ran period_of xs), fixed-above p i 0 xs)

  gives : (o t : ℕ) (xs ys : List Live) → t < (row_at ts i).deadline → owed_all ys ≡ o → Undone ts hs i (suc t) t xs ys
      → Undone ts hs i (suc t) (suc t) (given_by fixed o t xs ys).tasks (given_by fixed o t xs ys).handlers
  gives zero t xs ys h e u = picks t xs ys h e u
  gives (suc o) t xs ys h e u = serves t xs ys u

  ticks : (s : State) (t : ℕ) → s.clock ≡ t → t < (row_at ts i).deadline → Undone ts hs i (suc t) t (arrived t s.tasks) (arrived t s.handlers)
      → Undone ts hs i (suc t) (suc t) (tick_by fixed (full_at t s) s).tasks (tick_by fixed (full_at t s) s).handlers
  unfolding tick_by
  ticks s t e h u =
      subst
      (λ (m : ℕ). m < (row_at ts i).deadline → Undone ts hs i (suc m) m (arrived m s.tasks) (arrived m s.handlers) → Undone ts hs i (suc m) (suc m) (tick_by fixed (full_at m s) s).tasks (tick_by fixed (full_at m s) s).handlers)
      e
      (λ g v. gives (owed_all (arrived s.clock s.handlers)) s.clock (arrived s.clock s.tasks) (arrived s.clock s.handlers) g refl v)
      h
      u

  -- The arrivals by the clock are the full ones.
  beats-full : (n : ℕ) → full_at n (sync_by fixed n ts hs) ≡ beats_at n ts hs
  beats-full n =
      let b : Beating ts hs n (sync_by fixed n ts hs).tasks (sync_by fixed n ts hs).handlers = sync-beating fixed (serve-by-ran period_of) ts hs (valid-positive ts vt) ph n in
      let tasks = tasks-full-beats ts hs b in
      let handlers = handlers-full-beats ts hs b in
      λ k. record { to_tasks = tasks k; to_handlers = handlers k }

  pub undone : (n : ℕ) → n < (row_at ts i).deadline → Undone ts hs i (suc n) (suc n) (sync_by fixed (suc n) ts hs).tasks (sync_by fixed (suc n) ts hs).handlers
  unfolding sync_by
  undone zero h =
      subst (λ (a : Arrivals). Undone ts hs i 1 1 (tick_by fixed a (fresh_state ts hs)).tasks (tick_by fixed a (fresh_state ts hs)).handlers) (beats-full 0)
      (ticks (fresh_state ts hs) 0 refl h begins)
  undone (suc n) h =
      let s : State = sync_by fixed (suc n) ts hs in
      subst (λ (a : Arrivals). Undone ts hs i (suc (suc n)) (suc (suc n)) (tick_by fixed a s).tasks (tick_by fixed a s).handlers) (beats-full (suc n))
      (ticks s (suc n) (sync-clock fixed ts hs (suc n)) h (arrives (suc n) s.tasks s.handlers h (undone n (omega arith))))

  -- At the clock of its first deadline task i is late.
  pub fixed-late-at : (0 < (at_place i (sync_by fixed (row_at ts i).deadline ts hs).tasks).owed)
      × (due_of (at_place i (sync_by fixed (row_at ts i).deadline ts hs).tasks) ≡ (row_at ts i).deadline)
  fixed-late-at = go (row_at ts i).deadline refl
    where
      go : (d : ℕ) → (row_at ts i).deadline ≡ d → (0 < (at_place i (sync_by fixed d ts hs).tasks).owed) × (due_of (at_place i (sync_by fixed d ts hs).tasks) ≡ d)
      go zero e = absurd (omega (arith, sound.some))
      go (suc d) e =
          let u : Undone ts hs i (suc d) (suc d) (sync_by fixed (suc d) ts hs).tasks (sync_by fixed (suc d) ts hs).handlers = undone d (omega arith) in
          (u.some, u.ends ∙ e)

  pub fixed-late : ¬ OnTime (row_at ts i).deadline (sync_by fixed (row_at ts i).deadline ts hs).tasks
  fixed-late on =
      let xs : List Live = (sync_by fixed (row_at ts i).deadline ts hs).tasks in
      omega (arith, fixed-late-at.0, late-place (row_at ts i).deadline i xs on (place_in xs (sync-beating fixed (serve-by-ran period_of) ts hs (valid-positive ts vt) ph (row_at ts i).deadline).tasks-are) fixed-late-at.1)
