-- By fixed priority no run from fresh is ever over where every task has a response, whatever is offered and however often it is refused; and then a readable table fits under the earliest deadline too.
--   Sure r   run r is sound, not over, and keeps the invariant of every task
use mathlib.Core.Bool.{false}
use mathlib.Core.List.{List, [], ◌∷◌}
use mathlib.Core.Path.{◌≡◌, sym, ap, subst, ◌∙◌}
use Prim.Native.Nat.{ℕ}
use Rattle.std.specs.Prelude.{Ok}
use Rattle.demand.proofs.Inside.Sizes.{tasks-valid, handlers-positive}
use Rattle.demand.specs.Refusals.{table_refusal}
use Rattle.demand.specs.Rows.{Row, Positive, Valid, tasks_of, handlers_of}
use Rattle.verdict.proofs.Readable.{readable-table}
use Rattle.priority.specs.Responses.{Responds}
use Rattle.guarantees.specs.NoScheduler.{Met}
use Rattle.machine.specs.Live.{period_of}
use Rattle.guarantees.specs.LegalOnTime.{NeverOver}
use Rattle.guarantees.specs.Priority.{NeverLateByPriority, OnTimeByPriority, FitsByDeadline}
use Rattle.scheduler.specs.Reached.{offered_by, WellMade}
use Rattle.machine.specs.Machine.{sync_by}
use Rattle.scheduler.specs.Start.{fresh_run, fresh_of}
use Rattle.scheduler.proofs.Steps.Tables.{fresh-ready}
use Rattle.guarantees.proofs.LegalOnTime.{on-time-by}
use Rattle.guarantees.proofs.Priority.Said.{says-table, says-responds}
use Rattle.scheduler.specs.Steps.{step_by}
use Rattle.guarantees.specs.View.{view_of, offer_of}
use Rattle.scheduler.specs.declared.Run.{Run}
use Rattle.guarantees.proofs.View.Fresh.{fresh-run, fresh-well-made, fresh-going, fresh-view}
use Rattle.guarantees.proofs.View.Steps.{step-view, on-time-going}
use Rattle.guarantees.proofs.View.Arrives.{passed-tick}
use Rattle.guarantees.proofs.NoScheduler.{optimal}
use Rattle.machine.proofs.Priority.Above.{fixed}
use Rattle.guarantees.proofs.Priority.OnTime.{KeptAll, kept-on-time, fresh_kept, tick-kept, fixed-timely}
use Rattle.scheduler.proofs.Reached.{step-in-bounds}
use Rattle.scheduler.proofs.Steps.Answers.{passed, Outcome, outcome}
use Rattle.scheduler.proofs.Steps.Answers.Outcome.{stays, goes}
use Rattle.scheduler.specs.declared.Stepped.{Stepped}

module _ (ts hs : List Row) (vt : Valid ts) (ph : Positive hs) (responds : Responds ts hs) where
  pub record Sure (r : Run) : Type 0 where
    pub well-made : WellMade r
    pub going : r.over ≡ false
    pub kept : KeptAll ts hs (view_of r)

  -- A step keeps it: a refused one changes nothing, and an accepted one is a legal tick, on time at its end.
  sure_step : (r : Run) (ws : List ℕ) → Sure r → Sure (step_by period_of r ws).run
  sure_step r ws sure = go (outcome period_of r ws)
    where
      go : Outcome period_of r ws → Sure (step_by period_of r ws).run
      go (stays k e) = subst (λ (x : Stepped). Sure x.run) (sym e) sure
      go (goes a e) =
          let legal = passed-tick r ws sure.well-made (passed r ws a) in
          let kept : KeptAll ts hs (view_of (step_by period_of r ws).run) =
          subst (KeptAll ts hs) (sym (step-view period_of r ws sure.well-made a)) (tick-kept ts hs vt ph responds (offer_of r ws) (view_of r) legal sure.kept) in
          record {
            well-made = step-in-bounds period_of r ws sure.well-made;
            going = on-time-going period_of r ws sure.well-made a (kept-on-time ts hs (view_of (step_by period_of r ws).run) kept);
            kept = kept;
          }

  -- So for any list of offers.
  pub sure-offered : (offers : List (List ℕ)) (r : Run) → Sure r → Sure (offered_by period_of offers r)
  unfolding offered_by
  sure-offered [] r sure = sure
  sure-offered (ws ∷ offers) r sure = sure-offered offers (step_by period_of r ws).run (sure_step r ws sure)

-- A fresh run starts so.
pub sure-fresh : (t h : List ℕ) (e : table_refusal t h ≡ 0) (responds : Responds (tasks_of t) (handlers_of h))
    → Sure (tasks_of t) (handlers_of h) (tasks-valid t h e) (handlers-positive t h e) responds (fresh_run t h)
sure-fresh t h e responds =
    let ts : List Row = tasks_of t in
    let hs : List Row = handlers_of h in
    record {
      well-made = fresh-well-made t h e;
      going = fresh-going t h e;
      kept = subst (KeptAll ts hs) (sym (fresh-view t h e)) (fresh_kept ts hs (tasks-valid t h e) (handlers-positive t h e) responds);
    }

-- Where every task has a response.
never-over : (t h : List ℕ) → table_refusal t h ≡ 0 → Responds (tasks_of t) (handlers_of h) → NeverOver period_of t h
never-over t h e responds offers =
    ap (λ (x : Run). (offered_by period_of offers x).over) (fresh-run t h e)
    ∙ (sure-offered (tasks_of t) (handlers_of h) (tasks-valid t h e) (handlers-positive t h e) responds offers (fresh_run t h) (sure-fresh t h e responds)).going

pub never-late-by-priority : NeverLateByPriority
never-late-by-priority t h p each = never-over t h (says-table t h p each.says each.accepted) (says-responds t h p each)

pub on-time-by-priority : OnTimeByPriority
on-time-by-priority t h p each arrivals legal n soon =
    let e : table_refusal t h ≡ 0 = says-table t h p each.says each.accepted in
    let answer : (fresh_of t h).answer ≡ Ok tt = ap (λ x. x.answer) (fresh-ready t h e) in
    on-time-by period_of t h answer (never-late-by-priority t h p each) arrivals legal n soon

-- The synchronous run by priority is a schedule that meets every deadline for ever.
pub fits-by-deadline : FitsByDeadline
fits-by-deadline t h p r each readable says = optimal t h r readable says met
  where
    ts : List Row
    ts = tasks_of t

    hs : List Row
    hs = handlers_of h

    e : table_refusal t h ≡ 0
    e = readable-table t h readable

    met : (n : ℕ) → Met t h n
    met n =
        record {
          tasks = (sync_by fixed n ts hs).tasks;
          handlers = (sync_by fixed n ts hs).handlers;
          timely = fixed-timely ts hs (tasks-valid t h e) (handlers-positive t h e) (says-responds t h p each) n;
        }
