-- The piece law: while the one that runs is owed work and no task owed work has its deadline before, every tick goes to it.
--   Lasting r ran d   ran can go on for d ticks: not past the last tick, not more than its work, not past a deadline of a task owed work
--   Lone r ran d      so one tick less slides, and the last of d + 1 ends where the deadlines tell who is late
use mathlib.Core.Bool.{false, false≢true}
use mathlib.Core.List.{List}
use mathlib.Core.Logic.{⊎_elim}
use mathlib.Core.Path.{◌≡◌, refl, sym, ap, subst, ◌∙◌}
use native.Mathlib.Nat.{eq-or-lt_of_le, le_of_suc-le-suc, not-suc-le-zero}
use native.Mathlib.Omega.{arith}
use Prim.Native.Nat.{ℕ, zero, suc, ◌+◌, ◌≤◌, ◌<◌}
use lib.ListN.{get_or}
use Rattle.std.specs.Prelude.{Option, None, Some}
use Rattle.advance.proofs.Paid.{paid-zero, paid-add, paid-most, goes_on, ahead-nobody}
use Rattle.advance.proofs.Quietly.{quiet-passes, quiet_step}
use Rattle.advance.proofs.Stretches.{stretch-zero, stretch-next, stretch-inside}
use Rattle.advance.specs.Inside.Alone.{work_of, paid_by, standing, stood, slid, runner}
use Rattle.advance.specs.Promise.{WentTo, GoesOnTo}
use Rattle.advance.specs.Stretch.{quiet, quietly, stretch}
use Rattle.demand.specs.Limits.{ticks_most}
use Rattle.machine.specs.Live.{due_of}
use Rattle.scheduler.proofs.Steps.Answers.{Outcome, outcome}
use Rattle.scheduler.proofs.Steps.Answers.Outcome.{stays, goes}
use Rattle.scheduler.proofs.Steps.Clauses.{clauses}
use Rattle.scheduler.specs.Bounds.{InBounds}
use Rattle.scheduler.specs.Scans.{at}
use Rattle.scheduler.specs.Steps.{step_refusal}
use Rattle.scheduler.specs.Tick.{is_task}
use Rattle.scheduler.specs.declared.Ran.{Ran}
use Rattle.scheduler.specs.declared.Run.{Run}
use Rattle.scheduler.specs.declared.Stepped.{Stepped}

-- ---- to whom a step goes

pub went_on : (r : Run) (ran : Ran) → step_refusal r (quiet r) ≡ 0 → runner r ≡ ran → GoesOnTo ran r
unfolding WentTo
went_on r ran none same = subst (λ (x : Stepped). WentTo ran x.answer) (sym (quiet_step r none)) same

pub went_back : (r : Run) (ran : Ran) → GoesOnTo ran r → (step_refusal r (quiet r) ≡ 0) × (runner r ≡ ran)
unfolding WentTo
went_back r ran w = go (outcome due_of r (quiet r))
  where
    go : Outcome due_of r (quiet r) → (step_refusal r (quiet r) ≡ 0) × (runner r ≡ ran)
    go (stays k e) = absurd (subst (λ (x : Stepped). WentTo ran x.answer) e w)
    go (goes none e) = (none, subst (λ (x : Stepped). WentTo ran x.answer) (quiet_step r none) w)

-- ---- no tick at all

nobody-named : (l : Option ℕ) → is_task l ≡ false → None ≡ l
nobody-named None e = refl
nobody-named (Some i) e = absurd (false≢true (sym e))

slid-zero : (r : Run) (ran : Ran) → InBounds r → r.over ≡ false → slid r ran 0 ≡ r
unfolding slid
slid-zero r ran inside going =
    let named : is_task r.late ≡ false = rw going at (clauses r inside).named in
    let clock : r.clock + 0 ≡ r.clock = omega arith in
    λ i. record {
      tasks = r.tasks;
      handlers = r.handlers;
      task_count = r.task_count;
      handler_count = r.handler_count;
      clock = clock i;
      next = r.next;
      due = r.due;
      owed = paid-zero r.owed r.task_count ran i;
      over = sym going i;
      late = nobody-named r.late named i;
    }

-- ---- the ticks of one alone

pub record Lasting (r : Run) (ran : Ran) (d : ℕ) : Type 0 where
  pub within : r.clock + d ≤ ticks_most
  pub work : d ≤ work_of r.owed r.task_count ran
  pub timely : (j : ℕ) → j < r.task_count → 0 < get_or r.owed j 0 → r.clock + d ≤ get_or r.due j 0

pub record Lone (r : Run) (ran : Ran) (d : ℕ) : Type 0 where
  pub before : stretch d r ≡ slid r ran d
  pub end : stretch (suc d) r ≡ stood r (r.clock + suc d) (paid_by r.owed r.task_count ran (suc d))
  pub each : (i : ℕ) → i < suc d → GoesOnTo ran (stretch i r)

-- One tick more, ..
module _ (r : Run) (ran : Ran) (d : ℕ) (lasts : Lasting r ran (suc d)) (same : runner r ≡ ran) (inside : InBounds (slid r ran d)) where
  slid-runner : runner (slid r ran d) ≡ ran
  unfolding slid
  slid-runner = goes_on (at r.due) r.owed r.task_count r.handler_count ran d same (omega (arith, lasts.work))

  slid-accepted : step_refusal (slid r ran d) (quiet (slid r ran d)) ≡ 0
  unfolding slid
  slid-accepted = quiet-passes (slid r ran d) inside refl (omega (arith, lasts.within))

  slid-stood : stood (slid r ran d) ((slid r ran d).clock + 1) (paid_by (slid r ran d).owed (slid r ran d).task_count ran 1)
      ≡ stood r (r.clock + suc d) (paid_by r.owed r.task_count ran (suc d))
  unfolding slid
  slid-stood =
      let clock : r.clock + d + 1 ≡ r.clock + suc d = omega arith in
      let more : d + 1 ≡ suc d = omega arith in
      let owed = paid-add r.owed r.task_count ran d 1 (omega (arith, lasts.work))
      ∙ ap (λ (x : ℕ). paid_by r.owed r.task_count ran x) more in
      ap (λ (x : ℕ). stood r x (paid_by (paid_by r.owed r.task_count ran d) r.task_count ran 1)) clock
      ∙ ap (λ (x : List ℕ). stood r (r.clock + suc d) x) owed

  slid-tick : (quietly (slid r ran d)).run ≡ stood r (r.clock + suc d) (paid_by r.owed r.task_count ran (suc d))
  slid-tick =
      ap (λ (x : Stepped). x.run) (quiet_step (slid r ran d) slid-accepted)
      ∙ ap (λ (x : Ran). stood (slid r ran d) ((slid r ran d).clock + 1) (paid_by (slid r ran d).owed (slid r ran d).task_count x 1))
      slid-runner
      ∙ slid-stood

  slid-went : GoesOnTo ran (slid r ran d)
  slid-went = went_on (slid r ran d) ran slid-accepted slid-runner

-- .. at which nobody is late where there is another.
stood-slid : (r : Run) (ran : Ran) (d : ℕ) → Lasting r ran (suc d) → 0 < d
    → stood r (r.clock + d) (paid_by r.owed r.task_count ran d) ≡ slid r ran d
unfolding slid
stood-slid r ran d lasts some =
    ap (λ (l : Option ℕ). standing r (r.clock + d) (paid_by r.owed r.task_count ran d) l)
    (ahead-nobody (r.clock + d) (at r.due) (paid_by r.owed r.task_count ran d) r.task_count
    (λ j l work.
    let most = paid-most r.owed r.task_count ran d j (omega (arith, lasts.work)) in
    omega (arith, lasts.timely j l (omega arith))))

less-lasting : (r : Run) (ran : Ran) (d : ℕ) → Lasting r ran (suc d) → Lasting r ran d
less-lasting r ran d lasts = record {
  within = omega (arith, lasts.within);
  work = omega (arith, lasts.work);
  timely = λ j l work. omega (arith, lasts.timely j l work);
}

module _ (r : Run) (ran : Ran) (inside : InBounds r) (going : r.over ≡ false) (same : runner r ≡ ran) where
  from-before : (d : ℕ) → Lasting r ran (suc d) → stretch d r ≡ slid r ran d → ((i : ℕ) → i < d → GoesOnTo ran (stretch i r)) → Lone r ran d
  from-before d lasts before each =
      let kept : InBounds (slid r ran d) = subst InBounds before (stretch-inside r d inside) in
      record {
        before = before;
        end = stretch-next r d ∙ ap (λ (x : Run). (quietly x).run) before ∙ slid-tick r ran d lasts same kept;
        each = λ i l.
            ⊎_elim
            (λ e. subst (λ (x : Run). GoesOnTo ran x) (sym (ap (λ (n : ℕ). stretch n r) e ∙ before)) (slid-went r ran d lasts same kept))
            (λ m. each i m)
            (eq-or-lt_of_le (le_of_suc-le-suc l));
      }

  pub lone : (d : ℕ) → Lasting r ran (suc d) → Lone r ran d
  lone zero lasts =
      from-before zero lasts (stretch-zero r ∙ sym (slid-zero r ran inside going)) (λ i l. absurd (not-suc-le-zero l))
  lone (suc d) lasts =
      let was : Lone r ran d = lone d (less-lasting r ran (suc d) lasts) in
      from-before (suc d) lasts (was.end ∙ stood-slid r ran (suc d) lasts (omega arith)) was.each
