-- Our scheduler's synchronous run: its arrivals are legal, it is on time at every clock below the least length that fails, and late there.
use mathlib.Core.List.{List}
use mathlib.Core.Logic.{◌⊎◌, inl, inr}
use mathlib.Core.Path.{◌≡◌, refl, sym, subst}
use native.Mathlib.Nat.{eq-or-lt_of_le}
use native.Mathlib.Omega.{arith}
use Prim.Native.Nat.{ℕ, zero, suc, ◌≤◌, ◌<◌}
use Rattle.demand.specs.Demands.{Passes, Fails}
use Rattle.demand.specs.Rows.{Row, Positive, Valid}
use Rattle.demand.proofs.Sums.{valid-positive}
use Rattle.machine.specs.Live.{Live, due_of, arrive_all, owed_all, OnTime}
use Rattle.machine.specs.Machine.{State, serve_by, tick_by}
use Rattle.machine.specs.Schedules.{beats, RanOne, Gave, Timely, start, onward}
use Rattle.machine.specs.Machine.{beats_at, sync_by, sync}
use Rattle.machine.specs.Inside.Legal.{LegalAll, LegalTick}
use Rattle.machine.proofs.Beats.{Beating, beating-fresh, beating-gave, beating-legal}
use Rattle.machine.proofs.Invariant.{tick-clock, safe-on-time, Kept, fresh_kept, tick-kept}
use Rattle.machine.proofs.No.{timely-passes}
use Rattle.machine.proofs.Sync.{serve-by-ran, given-gave}

-- ---- for any choice that only runs owed work

-- After n ticks the clock is n.
pub sync-clock : (choose : List Live → List Live) (ts hs : List Row) (n : ℕ) → (sync_by choose n ts hs).clock ≡ n
unfolding sync_by
sync-clock choose ts hs zero = refl
sync-clock choose ts hs (suc n) = omega (arith, tick-clock choose (beats_at n ts hs) (sync_by choose n ts hs), sync-clock choose ts hs n)

module _ (choose : List Live → List Live) (ran : (xs : List Live) → RanOne xs (choose xs)) (ts hs : List Row) where
  abbrev after : ℕ → State
  after n = sync_by choose n ts hs

  -- Tick n of the run is a tick of a schedule.
  sync-gave : (n : ℕ) → Gave (arrive_all n (beats n ts) (after n).tasks) (arrive_all n (beats n hs) (after n).handlers) (after (suc n)).tasks (after (suc n)).handlers
  unfolding sync_by tick_by
  sync-gave n =
      subst
      (λ (t : ℕ). Gave (arrive_all t (beats n ts) (after n).tasks) (arrive_all t (beats n hs) (after n).handlers) (after (suc n)).tasks (after (suc n)).handlers)
      (sync-clock choose ts hs n)
      (given-gave choose ran
      (owed_all (arrive_all (after n).clock (beats n hs) (after n).handlers))
      (after n).clock
      (arrive_all (after n).clock (beats n ts) (after n).tasks)
      (arrive_all (after n).clock (beats n hs) (after n).handlers)
      refl)

  -- On time so far: a schedule has come there on time.
  pub sync-timely : (n : ℕ) → ((m : ℕ) → m ≤ n → OnTime m (sync_by choose m ts hs).tasks) → Timely ts hs n (sync_by choose n ts hs).tasks (sync_by choose n ts hs).handlers
  sync-timely zero on = unfold sync_by in start
  sync-timely (suc n) on = onward (sync-timely n (λ m h. on m (omega arith))) (sync-gave n) (on (suc n) (omega arith))

  -- On time or not, the run is on beat.
  pub sync-beating : Positive ts → Positive hs → (n : ℕ) → Beating ts hs n (sync_by choose n ts hs).tasks (sync_by choose n ts hs).handlers
  sync-beating pt ph zero = unfold sync_by in beating-fresh ts hs pt ph
  sync-beating pt ph (suc n) = beating-gave ts hs (sync-beating pt ph n) pt ph (sync-gave n)

  -- And so each of its ticks has legal arrivals.
  pub sync-legal : Positive ts → Positive hs → (n : ℕ) → LegalTick (beats_at n ts hs) (sync_by choose n ts hs)
  sync-legal pt ph n =
      subst (λ (m : ℕ). LegalAll m (beats n ts) (sync_by choose n ts hs).tasks × LegalAll m (beats n hs) (sync_by choose n ts hs).handlers) (sym (sync-clock choose ts hs n))
      (beating-legal ts hs (sync-beating pt ph n))

-- ---- for the earliest deadline, where every length below L passes

module _ (ts hs : List Row) (pt : Valid ts) (ph : Positive hs) (L : ℕ) (passes : (l : ℕ) → 0 < l → l < L → Passes ts hs l) where
  -- The clock of the run by the earliest deadline.
  clock-is : (n : ℕ) → (sync n ts hs).clock ≡ n
  clock-is n = sync-clock (serve_by due_of) ts hs n

  -- The run keeps the forward invariant.
  sync-kept : (n : ℕ) → Kept L ts hs (sync n ts hs)
  unfolding sync_by
  sync-kept zero = fresh_kept L ts hs pt ph passes
  sync-kept (suc n) =
      tick-kept L ts hs pt ph passes (beats_at n ts hs) (sync n ts hs) (sync-legal (serve_by due_of) (serve-by-ran due_of) ts hs (valid-positive ts pt) ph n) (sync-kept n)

  -- On time at every clock below L.
  pub on-time-below : (n : ℕ) → n < L → OnTime n (sync n ts hs).tasks
  on-time-below n h =
      subst (λ (m : ℕ). OnTime m (sync n ts hs).tasks) (clock-is n)
      (safe-on-time L (sync n ts hs) (omega (arith, clock-is n)) (sync-kept n).safe)

  -- Late at L, where L fails: on time there, it would be a schedule that is on time up to L.
  pub late-at : Fails ts hs L → ¬ OnTime L (sync L ts hs).tasks
  late-at fails on = omega (arith, timely-passes ts hs pt ph (sync-timely (serve_by due_of) (serve-by-ran due_of) ts hs L (λ m h. so_far m (eq-or-lt_of_le h))))
    where
      so_far : (m : ℕ) → (m ≡ L) ⊎ (m < L) → OnTime m (sync m ts hs).tasks
      so_far m (inl e) = subst (λ (n : ℕ). OnTime n (sync n ts hs).tasks) (sym e) on
      so_far m (inr h) = on-time-below m h
