-- The synchronous run by any key is over at the first clock at which the machine's is late, and accepted at every tick below it.
use mathlib.Core.Bool.{true, false}
use mathlib.Core.List.{List}
use mathlib.Core.Logic.{◌⊎◌, inl, inr}
use mathlib.Core.Path.{◌≡◌, refl, sym, ap, subst, ◌∙◌}
use native.Mathlib.Nat.{eq-or-lt_of_le}
use native.Mathlib.Omega.{arith}
use Prim.Native.Nat.{ℕ, zero, suc, ◌≤◌, ◌<◌}
use Rattle.demand.specs.Limits.{ticks_most}
use Rattle.demand.specs.Refusals.{table_refusal}
use Rattle.demand.specs.Rows.{Row, tasks_of, handlers_of}
use Rattle.guarantees.specs.LateExactly.{LateAtBy}
use Rattle.guarantees.specs.LegalArrivals.{Accepted}
use Rattle.guarantees.specs.Patterns.{pattern_to}
use Rattle.guarantees.specs.Synchronous.{beat_of, sync_run_by}
use Rattle.guarantees.specs.View.{view_of}
use Rattle.machine.specs.Live.{Live, OnTime}
use Rattle.machine.specs.Machine.{State, serve_by, sync_by}
use Rattle.machine.proofs.Least.{sync-clock}
use Rattle.scheduler.specs.Reached.{offered_by}
use Rattle.scheduler.specs.Scans.{at}
use Rattle.scheduler.specs.Steps.{step_by}
use Rattle.scheduler.specs.Tick.{late_row}
use Rattle.scheduler.specs.declared.Run.{Run}
use Rattle.guarantees.proofs.Synchronous.{Synced, sync-next, synced-fresh, synced-clock, synced-accepted, synced-next}
use Rattle.guarantees.proofs.View.Fresh.{fresh-run, fresh-going}
use Rattle.guarantees.proofs.View.Steps.{step-late, on-time-going, late-over}

module _ (key : Live → ℕ) (t h : List ℕ) (e : table_refusal t h ≡ 0) where
  abbrev ts : List Row
  ts = tasks_of t

  abbrev hs : List Row
  hs = handlers_of h

  -- One tick, accepted: what is on time in the machine's run is so in the run's state, and the reverse.
  module _ (n : ℕ) (s : Synced key t h e n) (soon : n < ticks_most) (going : (sync_run_by key t h n).over ≡ false) where
    abbrev after : Run
    after = (step_by key (sync_run_by key t h n) (beat_of t h n)).run

    a : Accepted (sync_run_by key t h n) (beat_of t h n)
    a = synced-accepted key t h e n s soon going

    view : view_of after ≡ sync_by (serve_by key) (suc n) ts hs
    view = ap view_of (sym (sync-next key t h e n)) ∙ (synced-next key t h e n s soon going).view

    clock : (sync_by (serve_by key) (suc n) ts hs).clock ≡ suc n
    clock = sync-clock (serve_by key) ts hs (suc n)

    pub next-going : OnTime (suc n) (sync_by (serve_by key) (suc n) ts hs).tasks → (sync_run_by key t h (suc n)).over ≡ false
    next-going on =
        ap (λ (r : Run). r.over) (sync-next key t h e n)
        ∙ on-time-going key (sync_run_by key t h n) (beat_of t h n) s.well-made a
        (subst (λ (v : State). OnTime v.clock v.tasks) (sym view) (subst (λ (c : ℕ). OnTime c (sync_by (serve_by key) (suc n) ts hs).tasks) (sym clock) on))

    pub next-over : ¬ OnTime (suc n) (sync_by (serve_by key) (suc n) ts hs).tasks → (sync_run_by key t h (suc n)).over ≡ true
    next-over late =
        ap (λ (r : Run). r.over) (sync-next key t h e n)
        ∙ late-over key (sync_run_by key t h n) (beat_of t h n) s.well-made a
        (λ on. late (subst (λ (c : ℕ). OnTime c (sync_by (serve_by key) (suc n) ts hs).tasks) clock (subst (λ (v : State). OnTime v.clock v.tasks) view on)))

    -- The late row is that of the first task owed work at its deadline.
    pub next-late : (sync_run_by key t h (suc n)).late ≡ late_row (suc n) (at (sync_run_by key t h (suc n)).due) (sync_run_by key t h (suc n)).owed (sync_run_by key t h (suc n)).task_count
    next-late =
        subst (λ (r : Run). r.late ≡ late_row (suc n) (at r.due) r.owed r.task_count) (sym (sync-next key t h e n))
        (subst (λ (c : ℕ). after.late ≡ late_row c (at after.due) after.owed after.task_count) (ap (λ (v : State). v.clock) view ∙ clock)
        (step-late key (sync_run_by key t h n) (beat_of t h n) s.well-made a))

  -- The run at clock n: the machine's, and not over.
  record Going (n : ℕ) : Type 0 where
    synced : Synced key t h e n
    going : (sync_run_by key t h n).over ≡ false

  module _ (l : ℕ) (positive : 1 ≤ l) (soon : l ≤ ticks_most)
      (on-time : (n : ℕ) → n < l → OnTime n (sync_by (serve_by key) n (tasks_of t) (handlers_of h)).tasks)
      (late-there : ¬ OnTime l (sync_by (serve_by key) l (tasks_of t) (handlers_of h)).tasks) where
    going-fresh : (sync_run_by key t h 0).over ≡ false
    unfolding pattern_to offered_by
    going-fresh = ap (λ (r : Run). r.over) (fresh-run t h e) ∙ fresh-going t h e

    -- Below it the machine is on time, and so the run goes on.
    going-below : (n : ℕ) → n < l → Going n
    going-below zero below = record { synced = synced-fresh key t h e; going = going-fresh }
    going-below (suc n) below =
        let g : Going n = going-below n (omega arith) in
        record {
          synced = synced-next key t h e n g.synced (omega arith) g.going;
          going = next-going n g.synced (omega arith) g.going (on-time (suc n) below);
        }

    pub first-late : LateAtBy key t h l
    first-late = go l refl
      where
        below : (n : ℕ) → n < l → (sync_run_by key t h n).clock ≡ n
        below n short = synced-clock key t h e n (going-below n short).synced

        up_to : (n : ℕ) → l ≡ suc n → (m : ℕ) → m ≤ l → (m ≡ l) ⊎ (m < l) → (sync_run_by key t h m).clock ≡ m
        up_to n last m within (inr short) = below m short
        up_to n last m within (inl same) =
            let g : Going n = going-below n (omega arith) in
            let end : suc n ≡ m = omega arith in
            subst (λ (k : ℕ). (sync_run_by key t h k).clock ≡ k) end (synced-clock key t h e (suc n) (synced-next key t h e n g.synced (omega arith) g.going))

        go : (k : ℕ) → l ≡ k → LateAtBy key t h l
        go zero none = absurd (omega arith)
        go (suc n) last =
            let g : Going n = going-below n (omega arith) in
            let late : ¬ OnTime (suc n) (sync_by (serve_by key) (suc n) ts hs).tasks = λ on. late-there (subst (λ (k : ℕ). OnTime k (sync_by (serve_by key) k ts hs).tasks) (sym last) on) in
            record {
              accepted = λ m short. let b : Going m = going-below m short in synced-accepted key t h e m b.synced (omega arith) b.going;
              clock = λ m within. up_to n last m within (eq-or-lt_of_le within);
              on-time = λ m short. (going-below m short).going;
              over = ap (λ (k : ℕ). (sync_run_by key t h k).over) last ∙ next-over n g.synced (omega arith) g.going late;
              late =
                  subst (λ (k : ℕ). (sync_run_by key t h k).late ≡ late_row k (at (sync_run_by key t h k).due) (sync_run_by key t h k).owed (sync_run_by key t h k).task_count) (sym last)
                  (next-late n g.synced (omega arith) g.going);
            }
