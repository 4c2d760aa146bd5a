-- In bounds for ever: a fresh run is, a step keeps it so, and so is every run reached.
use mathlib.Core.List.{List, [], ◌∷◌}
use mathlib.Core.Path.{sym, subst}
use Prim.Native.Nat.{ℕ}
use Rattle.machine.specs.Live.{Live}
use Rattle.scheduler.specs.Reached.{offered_by, WellMade, FreshInBounds, StepInBounds, AlwaysInBounds}
use Rattle.scheduler.specs.Start.{fresh_of}
use Rattle.scheduler.specs.Steps.{step_by}
use Rattle.scheduler.specs.Tick.{key_with, goes_to, ticked_by}
use Rattle.scheduler.specs.declared.Run.{Run}
use Rattle.scheduler.specs.declared.Stepped.{Stepped}
use Rattle.scheduler.proofs.Steps.Answers.{Passed, passed, Outcome, outcome}
use Rattle.scheduler.proofs.Steps.Answers.Outcome.{stays, goes}
use Rattle.scheduler.proofs.Reached.FreshBounds.{fresh-bounds, fresh-shape, ready, ready-run}
use Rattle.scheduler.proofs.Steps.Goes.{goes-to}
use Rattle.scheduler.proofs.Reached.KeepsBounds.{next_now, due_now, owed_now, keeps-bounds, keeps-shape}
pub mod FreshBounds
pub mod Keeps
pub mod KeepsBounds

pub fresh-in-bounds : FreshInBounds
fresh-in-bounds t h e =
    let none = ready t h e in
    subst WellMade (sym (ready-run t h e)) (record { in_bounds = fresh-bounds t h none; shaped = fresh-shape t h none })

ticked-well-made : (key : Live → ℕ) (r : Run) (ws : List ℕ) → WellMade r → Passed r ws → WellMade (ticked_by key r ws).run
unfolding ticked_by
ticked-well-made key r ws s p =
    let next = next_now r ws s.shaped p in
    let due = due_now r ws s.shaped p in
    let owed = owed_now r ws s.shaped p in
    let key-at : ℕ → ℕ = key_with key r next due owed in
    let goes = goes-to key-at owed r.task_count r.handler_count in
    record {
      in_bounds = keeps-bounds r ws s.shaped p key-at (goes_to key-at owed r.task_count r.handler_count) goes;
      shaped = keeps-shape r ws s.shaped p key-at (goes_to key-at owed r.task_count r.handler_count) goes;
    }

pub step-in-bounds : StepInBounds
step-in-bounds key r ws s = go (outcome key r ws)
  where
    go : Outcome key r ws → WellMade (step_by key r ws).run
    go (stays k e) = subst (λ (x : Stepped). WellMade x.run) (sym e) s
    go (goes none e) = subst (λ (x : Stepped). WellMade x.run) (sym e) (ticked-well-made key r ws s (passed r ws none))

-- So for any list of offers.
pub offered-in-bounds : (key : Live → ℕ) (offers : List (List ℕ)) (r : Run) → WellMade r → WellMade (offered_by key offers r)
unfolding offered_by
offered-in-bounds key [] r s = s
offered-in-bounds key (ws ∷ offers) r s = offered-in-bounds key offers (step_by key r ws).run (step-in-bounds key r ws s)

pub always-in-bounds : AlwaysInBounds
always-in-bounds key t h e offers = offered-in-bounds key offers (fresh_of t h).run (fresh-in-bounds t h e)
