-- After a yes every legal pattern of arrivals is accepted at every tick below the clock's limit, and nobody is late.
use mathlib.Core.Bool.{Bool, true, false, not, ◌&&◌}
use mathlib.Core.List.{List}
use mathlib.Core.Path.{◌≡◌, refl, sym, ap, ◌∙◌}
use native.Mathlib.Omega.{arith}
use Prim.Native.Nat.{ℕ, suc}
use Rattle.std.specs.Prelude.{Ok, Option, None, Some}
use Rattle.machine.specs.Live.{Live, due_of}
use Rattle.scheduler.specs.Promise as step
use Rattle.scheduler.specs.Reached.{WellMade}
use Rattle.scheduler.specs.Start.{fresh_of}
use Rattle.scheduler.specs.Steps.{step_by}
use Rattle.scheduler.specs.Tick.{is_task, ticked_by}
use Rattle.scheduler.specs.declared.Run.{Run}
use Rattle.scheduler.proofs.Reached.FreshBounds.{ready}
use Rattle.scheduler.proofs.Steps.Answers.{step-ticks}
use Rattle.scheduler.proofs.Steps.Clauses.{clauses}
use Rattle.scheduler.proofs.Steps.Tables.{fresh-ready}
use Rattle.verdict.proofs.Lightening.{says-fits}
use Rattle.verdict.proofs.Readable.{readable-table}
use Rattle.verdict.specs.Promise.{figures, SaysFits, VerdictSays}
use Rattle.guarantees.specs.LegalArrivals.{Accepted}
use Rattle.guarantees.specs.LegalOnTime.{OnTimeBy, LegalOnTime}
use Rattle.guarantees.specs.Patterns.{pattern_to, run_by}
use Rattle.guarantees.proofs.NeverLate.{never-late}
use Rattle.guarantees.proofs.Patterns.{run-next, Followed, followed-accepted, followed}

-- A run in bounds that is not over names no late row.
going-nobody : (r : Run) → WellMade r → r.over ≡ false → r.late ≡ None
going-nobody r s going = go r.over r.late going (clauses r s.in_bounds).named
  where
    go : (over : Bool) (late : Option ℕ) → over ≡ false → (not over && is_task late) ≡ false → late ≡ None
    go over None e named = refl
    go true (Some i) e named = cc
    go false (Some i) e named = cc

-- The late row of an accepted answer is that of its run.
told-late : (key : Live → ℕ) (r : Run) (ws : List ℕ) → Accepted r ws → (step.figures (step_by key r ws).answer).late ≡ step.who_late (step_by key r ws).run.late
unfolding ticked_by step.figures
told-late key r ws a = rw (step-ticks key r ws a) refl

pub on-time-by : OnTimeBy
on-time-by key t h answer never arrivals legal n soon =
    let going : (m : ℕ) → (run_by key t h arrivals m).over ≡ false = λ m. never (pattern_to arrivals m) in
    let e = ready t h answer in
    let f : Followed key t h e arrivals legal n = followed key t h e arrivals legal n (omega arith) (λ m l. going m) in
    let after : Followed key t h e arrivals legal (suc n) = followed key t h e arrivals legal (suc n) (omega arith) (λ m l. going m) in
    let a = followed-accepted key t h e arrivals legal n f soon (going n) in
    record {
      accepted = a;
      clock = f.clock;
      going = going n;
      late = going-nobody (run_by key t h arrivals n) f.well-made (going n);
      told =
          told-late key (run_by key t h arrivals n) (arrivals n) a
          ∙ ap (λ (r : Run). step.who_late r.late) (sym (run-next key t h arrivals n))
          ∙ ap step.who_late (going-nobody (run_by key t h arrivals (suc n)) after.well-made (going (suc n)));
    }

pub legal-on-time : LegalOnTime
unfolding VerdictSays
legal-on-time t h r says word arrivals legal n soon =
    let fits : SaysFits t h (figures r) = says-fits t h (figures r) word says in
    let answer : (fresh_of t h).answer ≡ Ok tt = ap (λ x. x.answer) (fresh-ready t h (readable-table t h fits.readable)) in
    on-time-by due_of t h answer (never-late t h r says word) arrivals legal n soon
