-- Fixed priorities, on states of the machine: where every task has a response, a fresh state is kept, a legal tick by priority keeps it, and what is kept is on time.
-- So the synchronous run by priority is always on time, and every length passes.
--   KeptAll ts hs s   the invariant of every task holds in state s
use mathlib.Core.List.{List, [], ◌∷◌}
use mathlib.Core.Path.{◌≡◌, refl, sym, ap, subst, ◌∙◌}
use native.Mathlib.Omega.{arith}
use Prim.Native.Nat.{ℕ, zero, suc, ◌-◌, ◌<◌}
use lib.ListN.{length}
use Rattle.demand.specs.Demands.{Passes}
use Rattle.demand.specs.Rows.{Row, row_at, Positive, Valid}
use Rattle.demand.proofs.Sums.{valid-positive}
use Rattle.priority.specs.Responses.{response, Responds}
use Rattle.machine.specs.Places.{at_place}
use Rattle.machine.specs.Live.{Live, due_of, arrive_all, owed_all, OnTime, period_of}
use Rattle.machine.specs.Machine.{State, Arrivals, fresh_state, given_by, tick_by, beats_at, sync_by}
use Rattle.machine.specs.Inside.Legal.{table_of, LegalTick}
use Rattle.machine.specs.Schedules.{Timely}
use Rattle.machine.proofs.Invariant.{arrive-table, idle-table, tick-clock}
use Rattle.machine.proofs.Least.{sync-clock, sync-legal, sync-timely}
use Rattle.machine.proofs.No.{timely-passes}
use Rattle.machine.proofs.Sync.{serve-by-ran, ran-table}
use Rattle.machine.proofs.Priority.Above.{fixed}
use Rattle.guarantees.proofs.Priority.Asked.{response-roomy}
use Rattle.machine.proofs.Priority.Kept.{pressing, Inv, inv-fresh, tick-inv}
use Rattle.machine.proofs.Priority.Place.{table-length}
use Rattle.machine.proofs.Priority.Slots.{Slot}

-- ---- the table stays

given-fixed-table : (o t : ℕ) (xs ys : List Live) → table_of (given_by fixed o t xs ys).tasks ≡ table_of xs
given-fixed-table zero t xs ys = ran-table (serve-by-ran period_of xs)
given-fixed-table (suc o) t xs ys = refl

pub tick-fixed-table : (a : Arrivals) (s : State) → table_of (tick_by fixed a s).tasks ≡ table_of s.tasks
unfolding tick_by
tick-fixed-table a s =
    let xs = arrive_all s.clock a.to_tasks s.tasks in
    let ys = arrive_all s.clock a.to_handlers s.handlers in
    given-fixed-table (owed_all ys) s.clock xs ys ∙ arrive-table s.clock a.to_tasks s.tasks

-- ---- on time, place by place

by_place : (t : ℕ) (xs : List Live) → ((i : ℕ) → i < length xs → due_of (at_place i xs) ≡ t → (at_place i xs).owed ≡ 0) → OnTime t xs
by_place t [] h = tt
by_place t (x ∷ xs) h = (h 0 (omega arith), by_place t xs (λ i l. h (suc i) (omega arith)))

-- A task that is owed work has ticks left for it.
inv-on-time : (ts hs : List Row) (i R t : ℕ) (xs ys : List Live) → Inv ts hs i R t xs ys → due_of (at_place i xs) ≡ t → (at_place i xs).owed ≡ 0
inv-on-time ts hs i R t xs ys inv e = go (at_place i xs).owed refl
  where
    go : (o : ℕ) → (at_place i xs).owed ≡ o → (at_place i xs).owed ≡ 0
    go zero f = f
    go (suc o) f =
        let s : Slot (due_of (at_place i xs) - t) (at_place i xs).owed (pressing (row_at ts i).period i t xs ys) = inv.busy (omega arith) in
        absurd (omega (arith, s.within, s.fits))

-- ---- every task

pub record KeptAll (ts hs : List Row) (s : State) : Type 0 where
  pub tasks-are : table_of s.tasks ≡ ts
  pub each : (i : ℕ) → i < length ts → Inv ts hs i (response ts hs i) s.clock s.tasks s.handlers

pub kept-on-time : (ts hs : List Row) (s : State) → KeptAll ts hs s → OnTime s.clock s.tasks
kept-on-time ts hs s kept =
    by_place s.clock s.tasks
    (λ i l.
    let place : i < length ts = omega (arith, ap (λ (rs : List Row). length rs) kept.tasks-are, table-length s.tasks) in
    inv-on-time ts hs i (response ts hs i) s.clock s.tasks s.handlers (kept.each i place))

module _ (ts hs : List Row) (vt : Valid ts) (ph : Positive hs) (responds : Responds ts hs) where
  pub fresh_kept : KeptAll ts hs (fresh_state ts hs)
  fresh_kept =
      record {
        tasks-are = idle-table ts;
        each = λ i place. inv-fresh ts hs vt ph i (response ts hs i) place (response-roomy ts hs i (responds i place));
      }

  pub tick-kept : (a : Arrivals) (s : State) → LegalTick a s → KeptAll ts hs s → KeptAll ts hs (tick_by fixed a s)
  tick-kept a s legal kept =
      record {
        tasks-are = tick-fixed-table a s ∙ kept.tasks-are;
        each = λ i place.
            subst (λ (c : ℕ). Inv ts hs i (response ts hs i) c (tick_by fixed a s).tasks (tick_by fixed a s).handlers) (sym (tick-clock fixed a s))
            (tick-inv ts hs vt ph i (response ts hs i) place (response-roomy ts hs i (responds i place)) a s legal (kept.each i place));
      }

  -- ---- the synchronous run by priority

  sync-kept : (n : ℕ) → KeptAll ts hs (sync_by fixed n ts hs)
  unfolding sync_by
  sync-kept zero = fresh_kept
  sync-kept (suc n) =
      tick-kept (beats_at n ts hs) (sync_by fixed n ts hs) (sync-legal fixed (serve-by-ran period_of) ts hs (valid-positive ts vt) ph n) (sync-kept n)

  pub sync-on-time : (n : ℕ) → OnTime n (sync_by fixed n ts hs).tasks
  sync-on-time n =
      subst (λ (m : ℕ). OnTime m (sync_by fixed n ts hs).tasks) (sync-clock fixed ts hs n) (kept-on-time ts hs (sync_by fixed n ts hs) (sync-kept n))

  -- It is a schedule that puts handlers first and is on time for ever.
  pub fixed-timely : (n : ℕ) → Timely ts hs n (sync_by fixed n ts hs).tasks (sync_by fixed n ts hs).handlers
  fixed-timely n = sync-timely fixed (serve-by-ran period_of) ts hs n (λ m h. sync-on-time m)

  pub fixed-passes : (l : ℕ) → Passes ts hs l
  fixed-passes l = timely-passes ts hs vt ph (fixed-timely l)
