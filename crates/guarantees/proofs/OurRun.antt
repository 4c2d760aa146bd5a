-- The synchronous run of `fresh` and `step` is our scheduler's, and one of the schedules that put handlers first, for as long as it is not over.
use mathlib.Core.Bool.{false}
use mathlib.Core.List.{List}
use mathlib.Core.Logic.{◌⊎◌, inl, inr}
use mathlib.Core.Path.{◌≡◌, sym, ap, subst, ◌∙◌}
use native.Mathlib.Nat.{eq-or-lt_of_le}
use native.Mathlib.Omega.{arith}
use Prim.Native.Nat.{ℕ, zero, suc, ◌≤◌, ◌<◌}
use Rattle.demand.specs.Limits.{ticks_most}
use Rattle.demand.specs.Refusals.{table_refusal}
use Rattle.demand.specs.Rows.{Row, tasks_of, handlers_of}
use Rattle.guarantees.specs.Synchronous.{beat_of, sync_run}
use Rattle.guarantees.specs.OurRun.{Ours, OurRun}
use Rattle.machine.specs.Live.{due_of, idle, OnTime}
use Rattle.machine.specs.Machine.{State, serve_by}
use Rattle.machine.specs.Schedules.{Timely}
use Rattle.machine.specs.Machine.{sync_by, sync}
use Rattle.guarantees.specs.View.{view_of}
use Rattle.scheduler.specs.declared.Run.{Run}
use Rattle.scheduler.proofs.Reached.FreshBounds.{ready}
use Rattle.machine.proofs.Invariant.{idle-before, on-time}
use Rattle.guarantees.proofs.View.Steps.{going-on-time}
use Rattle.machine.proofs.Least.{sync-clock, sync-timely}
use Rattle.machine.proofs.Sync.{serve-by-ran}
use Rattle.guarantees.proofs.Synchronous.{Synced, sync-next, synced-accepted, going_before, synced}

module _ (t h : List ℕ) (e : table_refusal t h ≡ 0) where
  abbrev ts : List Row
  ts = tasks_of t

  abbrev hs : List Row
  hs = handlers_of h

  -- Not over now: never over before.
  going-so-far : (n : ℕ) → (sync_run t h n).over ≡ false → (m : ℕ) → m ≤ n → (sync_run t h m).over ≡ false
  going-so-far zero going m within = let start : 0 ≡ m = omega arith in subst (λ (k : ℕ). (sync_run t h k).over ≡ false) start going
  going-so-far (suc n) going m within = go (eq-or-lt_of_le within) (going-so-far n (going_before due_of t h e n going) m)
    where
      go : (m ≡ suc n) ⊎ (m < suc n) → (m ≤ n → (sync_run t h m).over ≡ false) → (sync_run t h m).over ≡ false
      go (inl same) before = subst (λ (k : ℕ). (sync_run t h k).over ≡ false) (sym same) going
      go (inr less) before = before (omega arith)

  module _ (n : ℕ) (soon : n ≤ ticks_most) (going : (sync_run t h n).over ≡ false) where
    synced-at : (m : ℕ) → m ≤ n → Synced due_of t h e m
    synced-at m within = synced due_of t h e m (omega arith) (λ k l. going-so-far n going k (omega arith))

    -- So the machine is on time at each clock so far.
    machine-on-time : (m : ℕ) → m ≤ n → OnTime m (sync m ts hs).tasks
    machine-on-time zero within = unfold sync_by in on-time 0 (idle ts) (idle-before 1 ts)
    machine-on-time (suc m) within =
        let s : Synced due_of t h e m = synced-at m (omega arith) in
        let a = synced-accepted due_of t h e m s (omega arith) (going-so-far n going m (omega arith)) in
        let same = sync-next due_of t h e m in
        let now : (sync_run t h (suc m)).over ≡ false = going-so-far n going (suc m) within in
        let on = going-on-time due_of (sync_run t h m) (beat_of t h m) s.well-made a (ap (λ (r : Run). r.over) (sym same) ∙ now) in
        let run_on : OnTime (sync_run t h (suc m)).clock (view_of (sync_run t h (suc m))).tasks = subst (λ (r : Run). OnTime r.clock (view_of r).tasks) (sym same) on in
        subst (λ (c : ℕ). OnTime c (sync (suc m) ts hs).tasks) (sync-clock (serve_by due_of) ts hs (suc m))
        (subst (λ (v : State). OnTime v.clock v.tasks) (synced-at (suc m) within).view run_on)

    pub ours : Ours t h n
    ours =
        let view = (synced-at n (omega arith)).view in
        record {
          view = view;
          timely = subst (λ (v : State). Timely ts hs n v.tasks v.handlers) (sym view) (sync-timely (serve_by due_of) (serve-by-ran due_of) ts hs n machine-on-time);
        }

pub our-run : OurRun
our-run t h answer n soon going = ours t h (ready t h answer) n soon going
