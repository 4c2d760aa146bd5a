-- The synchronous run of a table, as `fresh` and steps by any key make it, is the machine's synchronous run for as long as it is not over.
--   Synced n   the run after n ticks of synchronous arrivals is well made, has the table's rows, and is seen as the machine's
use mathlib.Core.Bool.{false}
use mathlib.Core.List.{List}
use mathlib.Core.Path.{◌≡◌, sym, ap, ap₂, subst, ◌∙◌}
use native.Mathlib.Omega.{arith}
use Prim.Native.Nat.{ℕ, zero, suc, ◌+◌, ◌≤◌, ◌<◌}
use lib.ListN.{length, length-append}
use Rattle.demand.proofs.Inside.Sizes.{tasks-valid, handlers-positive}
use Rattle.demand.proofs.Sums.{valid-positive}
use Rattle.demand.specs.Limits.{ticks_most}
use Rattle.demand.specs.Refusals.{table_refusal}
use Rattle.demand.specs.Rows.{Row, tasks_of, handlers_of}
use Rattle.guarantees.specs.LegalArrivals.{Accepted}
use Rattle.guarantees.specs.Patterns.{pattern_to}
use Rattle.guarantees.specs.Synchronous.{beat_of, sync_run_by}
use Rattle.machine.specs.Live.{Live}
use Rattle.machine.specs.Machine.{State, Arrivals, serve_by, tick_by}
use Rattle.scheduler.specs.Reached.{offered_by, WellMade}
use Rattle.scheduler.specs.Runs.{row_count, task_rows, handler_rows}
use Rattle.machine.specs.Schedules.{beats}
use Rattle.machine.specs.Machine.{beats_at, sync_by}
use Rattle.machine.specs.Inside.Legal.{LegalTick}
use Rattle.scheduler.specs.Steps.{step_by}
use Rattle.guarantees.specs.View.{view_of, offer_of}
use Rattle.scheduler.specs.declared.Run.{Run}
use Rattle.scheduler.specs.declared.Stepped.{Stepped}
use Rattle.scheduler.proofs.Steps.Answers.{passed, Outcome, outcome}
use Rattle.scheduler.proofs.Steps.Answers.Outcome.{stays, goes}
use Rattle.machine.proofs.Beats.{beats-length}
use Rattle.guarantees.proofs.View.Fresh.{fresh-run, fresh-well-made, fresh-tasks, fresh-handlers, fresh-view}
use Rattle.scheduler.proofs.Reached.{step-in-bounds}
use Rattle.guarantees.proofs.View.Steps.{step-tasks, step-handlers, step-view}
use Rattle.machine.proofs.Least.{sync-clock, sync-legal}
use Rattle.guarantees.proofs.View.Parts.{front_of, back-of}
use Rattle.machine.proofs.Sync.{serve-by-ran}
use Rattle.guarantees.proofs.View.Rows.{task-rows, handler-rows}
use Rattle.guarantees.proofs.View.Arrives.{tick-accepted}
use Rattle.guarantees.proofs.Patterns.{run-next}

module _ (key : Live → ℕ) (t h : List ℕ) (e : table_refusal t h ≡ 0) where
  abbrev ts : List Row
  ts = tasks_of t

  abbrev hs : List Row
  hs = handlers_of h

  -- Tick n is a step with the arrivals of tick n.
  pub sync-next : (n : ℕ) → sync_run_by key t h (suc n) ≡ (step_by key (sync_run_by key t h n) (beat_of t h n)).run
  sync-next n = run-next key t h (beat_of t h) n

  pub record Synced (n : ℕ) : Type 0 where
    pub well-made : WellMade (sync_run_by key t h n)
    pub tasks-are : task_rows (sync_run_by key t h n) ≡ tasks_of t
    pub handlers-are : handler_rows (sync_run_by key t h n) ≡ handlers_of h
    pub view : view_of (sync_run_by key t h n) ≡ sync_by (serve_by key) n (tasks_of t) (handlers_of h)

  -- At the start.
  pub synced-fresh : Synced 0
  unfolding pattern_to offered_by sync_by
  synced-fresh =
      let same = fresh-run t h e in
      record {
        well-made = subst WellMade (sym same) (fresh-well-made t h e);
        tasks-are = ap task_rows same ∙ fresh-tasks t h e;
        handlers-are = ap handler_rows same ∙ fresh-handlers t h e;
        view = ap view_of same ∙ fresh-view t h e;
      }

  module _ (n : ℕ) (s : Synced n) where
    abbrev run : Run
    run = sync_run_by key t h n

    pub synced-clock : (sync_run_by key t h n).clock ≡ n
    synced-clock = ap (λ (v : State). v.clock) s.view ∙ sync-clock (serve_by key) ts hs n

    -- The arrivals of tick n have a number for each row, ..
    task-count : length (beats n ts) ≡ run.task_count
    task-count = beats-length n ts ∙ ap (λ (rs : List Row). length rs) (sym s.tasks-are) ∙ (task-rows run s.well-made).count

    handler-count : length (beats n hs) ≡ run.handler_count
    handler-count = beats-length n hs ∙ ap (λ (rs : List Row). length rs) (sym s.handlers-are) ∙ (handler-rows run s.well-made).count

    count : length (beat_of t h n) ≡ row_count run
    unfolding beat_of
    count = length-append (beats n ts) (beats n hs) ∙ ap₂ ◌+◌ task-count handler-count

    -- .. and are the machine's.
    offer : offer_of run (beat_of t h n) ≡ beats_at n ts hs
    unfolding beat_of
    offer =
        let tasks = front_of (beats n ts) (beats n hs) run.task_count task-count in
        let handlers = back-of (beats n ts) (beats n hs) run.task_count task-count run.handler_count handler-count in
        λ i. record { to_tasks = tasks i; to_handlers = handlers i }

    -- So they are legal, and accepted where the run is not over.
    legal : LegalTick (offer_of run (beat_of t h n)) (view_of run)
    legal =
        subst (λ (v : State). LegalTick (offer_of run (beat_of t h n)) v) (sym s.view)
        (subst (λ (a : Arrivals). LegalTick a (sync_by (serve_by key) n ts hs)) (sym offer)
        (sync-legal (serve_by key) (serve-by-ran key) ts hs (valid-positive ts (tasks-valid t h e)) (handlers-positive t h e) n))

    pub synced-accepted : n < ticks_most → (sync_run_by key t h n).over ≡ false → Accepted (sync_run_by key t h n) (beat_of t h n)
    synced-accepted soon going = tick-accepted run (beat_of t h n) s.well-made going (omega (arith, synced-clock)) count legal

    -- The tick is the machine's.
    pub synced-next : n < ticks_most → (sync_run_by key t h n).over ≡ false → Synced (suc n)
    unfolding sync_by
    synced-next soon going =
        let a = synced-accepted soon going in
        let same = sync-next n in
        record {
          well-made = subst WellMade (sym same) (step-in-bounds key run (beat_of t h n) s.well-made);
          tasks-are = ap task_rows same ∙ step-tasks key run (beat_of t h n) ∙ s.tasks-are;
          handlers-are = ap handler_rows same ∙ step-handlers key run (beat_of t h n) ∙ s.handlers-are;
          view = ap view_of same ∙ step-view key run (beat_of t h n) s.well-made a ∙ ap₂ (λ (x : Arrivals) (v : State). tick_by (serve_by key) x v) offer s.view;
        }

  -- Once over, always over.
  pub going_before : (n : ℕ) → (sync_run_by key t h (suc n)).over ≡ false → (sync_run_by key t h n).over ≡ false
  going_before n going = go (outcome key (sync_run_by key t h n) (beat_of t h n))
    where
      go : Outcome key (sync_run_by key t h n) (beat_of t h n) → (sync_run_by key t h n).over ≡ false
      go (stays k same) = ap (λ (r : Run). r.over) (sym (sync-next n ∙ ap (λ (x : Stepped). x.run) same)) ∙ going
      go (goes a e) = (passed (sync_run_by key t h n) (beat_of t h n) a).going

  -- So the run is the machine's up to the first clock at which it is over.
  pub synced : (n : ℕ) → n ≤ ticks_most → ((m : ℕ) → m < n → (sync_run_by key t h m).over ≡ false) → Synced n
  synced zero soon going = synced-fresh
  synced (suc n) soon going = synced-next n (synced n (omega arith) (λ m l. going m (omega arith))) (omega arith) (going n (omega arith))
