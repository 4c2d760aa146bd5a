-- A step is a tick of the machine: an accepted one makes of a run's state what the machine makes of it, and the run is over exactly where that is not on time.
use mathlib.Core.Bool.{Bool, true, false}
use mathlib.Core.List.{List}
use mathlib.Core.Path.{◌≡◌, refl, sym, ap, ap₂, ◌∙◌}
use Prim.Native.Nat.{ℕ}
use Rattle.guarantees.specs.LegalArrivals.{Accepted}
use Rattle.machine.specs.Live.{Live, owed_all, OnTime}
use Rattle.machine.specs.Machine.{serve_by, given_by, tick_by}
use Rattle.scheduler.specs.Reached.{WellMade}
use Rattle.scheduler.specs.Runs.{task_rows, handler_rows}
use Rattle.scheduler.specs.Scans.{at}
use Rattle.scheduler.specs.Steps.{step_by}
use Rattle.scheduler.specs.Tick.{key_with, goes_to, late_row, is_task, ticked_by}
use Rattle.guarantees.specs.View.{view_of, offer_of}
use Rattle.scheduler.specs.declared.Ran.{Ran}
use Rattle.scheduler.specs.declared.Run.{Run}
use Rattle.scheduler.specs.declared.Stepped.{Stepped}
use Rattle.scheduler.proofs.Steps.Answers.{Passed, passed, step-ticks, Outcome, outcome}
use Rattle.scheduler.proofs.Steps.Answers.Outcome.{stays, goes}
use Rattle.scheduler.proofs.Steps.Goes.{goes-to}
use Rattle.scheduler.proofs.Reached.{step-in-bounds}
use Rattle.scheduler.proofs.Reached.KeepsBounds.{next_now, due_now, due-length, owed_now, owed-length}
use Rattle.guarantees.proofs.View.Arrives.{next-length, tasks-arrive, handlers-arrive}
use Rattle.guarantees.proofs.View.Late.{named-not-on-time, nobody-on-time}
use Rattle.guarantees.proofs.View.Serves.{goes-view}

module _ (key : Live → ℕ) (r : Run) (ws : List ℕ) where
  -- The tick, seen.
  ticked-view : WellMade r → Passed r ws → view_of (ticked_by key r ws).run ≡ tick_by (serve_by key) (offer_of r ws) (view_of r)
  unfolding ticked_by tick_by task_rows handler_rows
  ticked-view s p =
      let next = next_now r ws s.shaped p in
      let due = due_now r ws s.shaped p in
      let owed = owed_now r ws s.shaped p in
      let key-at : ℕ → ℕ = key_with key r next due owed in
      let ran : Ran = goes_to key-at owed r.task_count r.handler_count in
      goes-view key r s next due owed (next-length r ws s p) (due-length r ws s.shaped p) (owed-length r ws s.shaped p) ran (goes-to key-at owed r.task_count r.handler_count)
      ∙ ap₂ (λ (ts hs : List Live). given_by (serve_by key) (owed_all hs) r.clock ts hs) (sym (tasks-arrive r ws s p)) (sym (handlers-arrive r ws s p))

  -- The table stays, of a refused step too.
  pub step-tasks : task_rows (step_by key r ws).run ≡ task_rows r
  unfolding ticked_by task_rows
  step-tasks = go (outcome key r ws)
    where
      go : Outcome key r ws → task_rows (step_by key r ws).run ≡ task_rows r
      go (stays k e) = ap (λ (x : Stepped). task_rows x.run) e
      go (goes a e) = ap (λ (x : Stepped). task_rows x.run) e

  pub step-handlers : handler_rows (step_by key r ws).run ≡ handler_rows r
  unfolding ticked_by handler_rows
  step-handlers = go (outcome key r ws)
    where
      go : Outcome key r ws → handler_rows (step_by key r ws).run ≡ handler_rows r
      go (stays k e) = ap (λ (x : Stepped). handler_rows x.run) e
      go (goes a e) = ap (λ (x : Stepped). handler_rows x.run) e

  module _ (s : WellMade r) (a : Accepted r ws) where
    abbrev after : Run
    after = (step_by key r ws).run

    abbrev OnTimeThen : Type 0
    OnTimeThen = OnTime after.clock (view_of after).tasks

    pub step-view : view_of (step_by key r ws).run ≡ tick_by (serve_by key) (offer_of r ws) (view_of r)
    step-view = ap (λ (x : Stepped). view_of x.run) (step-ticks key r ws a) ∙ ticked-view s (passed r ws a)

    -- The late row is the first task owed work at its deadline, and the run is over where there is one.
    pub step-late : (step_by key r ws).run.late ≡ late_row (step_by key r ws).run.clock (at (step_by key r ws).run.due) (step_by key r ws).run.owed (step_by key r ws).run.task_count
    unfolding ticked_by
    step-late = rw (step-ticks key r ws a)

    step-over : after.over ≡ is_task (late_row after.clock (at after.due) after.owed after.task_count)
    unfolding ticked_by
    step-over =
        let e = step-ticks key r ws a in
        ap (λ (x : Stepped). x.run.over) e ∙ sym (ap (λ (x : Stepped). is_task x.run.late) e) ∙ ap is_task step-late

    -- On time exactly where it is not over.
    pub going-on-time : (step_by key r ws).run.over ≡ false → OnTime (step_by key r ws).run.clock (view_of (step_by key r ws).run).tasks
    going-on-time e = nobody-on-time after (step-in-bounds key r ws s) after.clock (sym step-over ∙ e)

    over-late : after.over ≡ true → ¬ OnTimeThen
    over-late e = named-not-on-time after (step-in-bounds key r ws s) after.clock (sym step-over ∙ e)

    pub on-time-going : OnTime (step_by key r ws).run.clock (view_of (step_by key r ws).run).tasks → (step_by key r ws).run.over ≡ false
    on-time-going on = go after.over refl
      where
        go : (b : Bool) → after.over ≡ b → after.over ≡ false
        go true e = absurd (over-late e on)
        go false e = e

    pub late-over : ¬ OnTime (step_by key r ws).run.clock (view_of (step_by key r ws).run).tasks → (step_by key r ws).run.over ≡ true
    late-over late = go after.over refl
      where
        go : (b : Bool) → after.over ≡ b → after.over ≡ true
        go true e = e
        go false e = absurd (late (going-on-time e))
