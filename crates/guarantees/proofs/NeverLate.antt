-- After a yes no run from fresh is ever over, whatever is offered and however often it is refused.
--   Sure r   run r is well made, not over, and keeps the forward invariant at every length
use mathlib.Core.Bool.{false}
use mathlib.Core.List.{List, [], ◌∷◌}
use mathlib.Core.Path.{◌≡◌, sym, ap, subst, ◌∙◌}
use native.Mathlib.Omega.{arith}
use Prim.Native.Nat.{ℕ, suc, ◌≤◌}
use Rattle.demand.proofs.Inside.Sizes.{tasks-valid, handlers-positive}
use Rattle.demand.specs.Demands.{Passes}
use Rattle.demand.specs.Refusals.{table_refusal}
use Rattle.demand.specs.Rows.{Row, Positive, Valid, tasks_of, handlers_of}
use Rattle.verdict.proofs.Readable.{readable-table}
use Rattle.verdict.proofs.Lightening.{says-fits}
use Rattle.verdict.specs.Lengths.{AlwaysPasses}
use Rattle.verdict.specs.Promise.{figures, SaysFits, VerdictSays}
use Rattle.guarantees.specs.NeverLate.{NeverLate}
use Rattle.machine.specs.Live.{due_of}
use Rattle.scheduler.specs.Reached.{offered_by, offered, WellMade}
use Rattle.scheduler.specs.Start.{fresh_run}
use Rattle.scheduler.specs.Steps.{step_by}
use Rattle.guarantees.specs.View.{view_of, offer_of}
use Rattle.scheduler.specs.declared.Run.{Run}
use Rattle.scheduler.specs.declared.Stepped.{Stepped}
use Rattle.scheduler.proofs.Steps.Answers.{passed, Outcome, outcome}
use Rattle.scheduler.proofs.Steps.Answers.Outcome.{stays, goes}
use Rattle.guarantees.proofs.View.Fresh.{fresh-run, fresh-well-made, fresh-going, fresh-view}
use Rattle.scheduler.proofs.Reached.{step-in-bounds}
use Rattle.machine.proofs.Invariant.{Kept, fresh_kept, tick-kept, safe-on-time}
use Rattle.guarantees.proofs.View.Steps.{step-view, on-time-going}
use Rattle.guarantees.proofs.View.Arrives.{passed-tick}

module _ (ts hs : List Row) (pt : Valid ts) (ph : Positive hs) (passes : (l : ℕ) → 1 ≤ l → Passes ts hs l) where
  pub record Sure (r : Run) : Type 0 where
    pub well-made : WellMade r
    pub going : r.over ≡ false
    pub kept : (N : ℕ) → Kept N ts hs (view_of r)

  -- A step keeps it: a refused one changes nothing, and an accepted one is a legal tick, on time at its end.
  sure_step : (r : Run) (ws : List ℕ) → Sure r → Sure (step_by due_of r ws).run
  sure_step r ws sure = go (outcome due_of r ws)
    where
      go : Outcome due_of r ws → Sure (step_by due_of r ws).run
      go (stays k e) = subst (λ (x : Stepped). Sure x.run) (sym e) sure
      go (goes a e) =
          let legal = passed-tick r ws sure.well-made (passed r ws a) in
          let kept : (N : ℕ) → Kept N ts hs (view_of (step_by due_of r ws).run) =
          λ N.
          subst (Kept N ts hs) (sym (step-view due_of r ws sure.well-made a))
          (tick-kept N ts hs pt ph (λ l from below. passes l from) (offer_of r ws) (view_of r) legal (sure.kept N)) in
          let N : ℕ = suc (step_by due_of r ws).run.clock in
          record {
            well-made = step-in-bounds due_of r ws sure.well-made;
            going = on-time-going due_of r ws sure.well-made a (safe-on-time N (view_of (step_by due_of r ws).run) (omega arith) (kept N).safe);
            kept = kept;
          }

  -- So for any list of offers.
  pub sure-offered : (offers : List (List ℕ)) (r : Run) → Sure r → Sure (offered offers r)
  unfolding offered_by
  sure-offered [] r sure = sure
  sure-offered (ws ∷ offers) r sure = sure-offered offers (step_by due_of r ws).run (sure_step r ws sure)

-- A fresh run starts so.
pub sure-fresh : (t h : List ℕ) (e : table_refusal t h ≡ 0) (passes : (l : ℕ) → 1 ≤ l → Passes (tasks_of t) (handlers_of h) l)
    → Sure (tasks_of t) (handlers_of h) (tasks-valid t h e) (handlers-positive t h e) passes (fresh_run t h)
sure-fresh t h e passes =
    let ts : List Row = tasks_of t in
    let hs : List Row = handlers_of h in
    record {
      well-made = fresh-well-made t h e;
      going = fresh-going t h e;
      kept = λ N. subst (Kept N ts hs) (sym (fresh-view t h e)) (fresh_kept N ts hs (tasks-valid t h e) (handlers-positive t h e) (λ l from below. passes l from));
    }

pub never-late : NeverLate
unfolding VerdictSays AlwaysPasses
never-late t h r says word offers =
    let fits : SaysFits t h (figures r) = says-fits t h (figures r) word says in
    let e : table_refusal t h ≡ 0 = readable-table t h fits.readable in
    let passes : (l : ℕ) → 1 ≤ l → Passes (tasks_of t) (handlers_of h) l = fits.passes in
    ap (λ (x : Run). (offered offers x).over) (fresh-run t h e)
    ∙ (sure-offered (tasks_of t) (handlers_of h) (tasks-valid t h e) (handlers-positive t h e) passes offers (fresh_run t h) (sure-fresh t h e passes)).going
