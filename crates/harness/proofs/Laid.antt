-- What a call leaves in the lent arrays, from what it computed; and that it is determined.
use mathlib.Core.Bool.{Bool, true, false}
use mathlib.Core.List.{List, ◌++◌}
use mathlib.Core.Logic.{◌⊎◌, inl, inr}
use mathlib.Core.Path.{◌≡◌, refl, sym, ap, subst, ◌∙◌}
use native.Mathlib.Nat.{eq-zero-or-pos}
use native.Mathlib.Omega.{arith}
use Prim.Native.Nat.{ℕ, zero, suc, ◌≤◌, ◌<◌}
use Rattle.std.specs.Prelude.{Option, None, Some, Result, Ok, Err}
use Rattle.demand.specs.Limits.{tasks_most}
use Rattle.demand.specs.Numbered.{refusal_at, refused}
use Rattle.demand.specs.Refusals.{table_refusal}
use Rattle.demand.specs.Tests.{pick}
use Rattle.demand.specs.declared.refusal.Refusal.{Refusal}
use Rattle.machine.specs.Live.{Live}
use Rattle.scheduler.specs.Promise.{tick_figures, figures, FreshSays, StepSays}
use Rattle.scheduler.specs.Scans.{first_of}
use Rattle.scheduler.specs.Start.{no_run, fresh_run}
use Rattle.scheduler.specs.Steps.{step_refusal}
use Rattle.scheduler.specs.Tick.{late_row, ticked_by}
use Rattle.scheduler.specs.declared.Fresh.{Fresh}
use Rattle.scheduler.specs.declared.Ran.{Ran}
use Rattle.scheduler.specs.declared.Ran.TheVariants as ran
use Rattle.scheduler.specs.declared.Run.{Run}
use Rattle.scheduler.specs.declared.Stepped.{Stepped}
use Rattle.scheduler.specs.declared.Ticked.{Ticked}
use Rattle.scheduler.proofs.Promise.{fresh-unique, step-unique}
use Rattle.scheduler.proofs.Steps.Answers.{passed, step-refused, step-known, Outcome, outcome}
use Rattle.scheduler.proofs.Steps.Answers.Outcome.{stays, goes}
use Rattle.scheduler.proofs.Steps.Clauses.{clauses, clauses-fit}
use Rattle.scheduler.proofs.Steps.Tables.{fresh-ready}
use Rattle.harness.specs.Numbers.{answer_numbers, numbers_of, FiguresLaid, late_number, run_numbers, refused_numbers, refused_layout, run_in, left_with, left_by, LateRows, RefusedAs, FreshLaidUnique, StepLaidUnique, RefusedKeeps}

-- ---- a late row that is told is one of at most 64

-- The first of n places, or nobody.
first-most : (p : ℕ → Bool) (n most : ℕ) (none : Option ℕ) → n ≤ most → late_number none ≤ most → late_number (first_of p Some n none) ≤ most
unfolding first_of
first-most p zero most none few l = l
first-most p (suc n) most none few l = first-most p n most (pick (p n) (Some n) none) (omega arith) (go (p n))
  where
    go : (b : Bool) → late_number (pick b (Some n) none) ≤ most
    go true = omega arith
    go false = l

row-most : (clock : ℕ) (due : ℕ → ℕ) (owed : List ℕ) (n most : ℕ) → n ≤ most → late_number (late_row clock due owed n) ≤ most
unfolding late_row
row-most clock due owed n most few = first-most _ n most None few (omega arith)

-- Nobody is late beside a fresh run.
pub fresh-late : (t h : List ℕ) (f : Fresh) → FreshSays t h f → late_number f.run.late ≤ tasks_most
fresh-late t h f says = go (eq-zero-or-pos (table_refusal t h))
  where
    go : (table_refusal t h ≡ 0) ⊎ (0 < table_refusal t h) → late_number f.run.late ≤ tasks_most
    go (inl none) =
        let is : f ≡ record { run = fresh_run t h; answer = _ } = says.answer ∙ fresh-ready t h none in
        rw is (unfold fresh_run in omega arith)
    go (inr some) = rw (says.zeros some) (unfold no_run in omega arith)

-- ---- what an answer tells of its step

same-tick : {a b : Ticked} → ◌≡◌ {A = Result Ticked Refusal} (Ok a) (Ok b) → a ≡ b
same-tick e = cc

-- A tick names no late row above the 64th, in its run and in its answer.
pub late-rows : (key : Live → ℕ) (r : Run) (ws : List ℕ) (s : Stepped) → StepSays key r ws s → LateRows s
unfolding ticked_by
late-rows key r ws s says t is = go (outcome key r ws)
  where
    go : Outcome key r ws → (late_number s.run.late ≤ tasks_most) × (late_number t.late ≤ tasks_most)
    go (stays k e) =
        let same : Err (refusal_at k) ≡ Ok t = sym (ap (λ (x : Stepped). x.answer) (says.answer ∙ e)) ∙ is in
        absurd (let z : ◌≡◌ {A = ℕ} 0 1 = cc in omega arith)
    go (goes none e) =
        let few : r.task_count ≤ tasks_most = (clauses-fit r (clauses r (passed r ws none).in_bounds)).tasks in
        let own : late_number (ticked_by key r ws).run.late ≤ tasks_most = row-most _ _ _ r.task_count tasks_most few in
        let told = same-tick (sym (ap (λ (x : Stepped). x.answer) (says.answer ∙ e)) ∙ is) in
        (subst (λ (x : Stepped). late_number x.run.late ≤ tasks_most) (sym (says.answer ∙ e)) own, subst (λ (x : Ticked). late_number x.late ≤ tasks_most) told own)

-- A refused step stands beside the run that was given: what are that run's numbers are its own.
pub refused-as : (key : Live → ℕ) (r : Run) (ws next due owed : List ℕ) (s : Stepped) → StepSays key r ws s
    → next ≡ r.next → due ≡ r.due → owed ≡ r.owed → RefusedAs s next due owed
unfolding ticked_by
refused-as key r ws next due owed s says n d o e is =
    let same = sym (go (outcome key r ws)) in
    (n ∙ ap (λ (x : Run). x.next) same, d ∙ ap (λ (x : Run). x.due) same, o ∙ ap (λ (x : Run). x.owed) same)
  where
    go : Outcome key r ws → s.run ≡ r
    go (stays k stayed) = ap (λ (x : Stepped). x.run) (says.answer ∙ stayed)
    go (goes none gone) =
        let same : Ok _ ≡ Err e = sym (ap (λ (x : Stepped). x.answer) (says.answer ∙ gone)) ∙ is in
        absurd (let z : ◌≡◌ {A = ℕ} 0 1 = cc in omega arith)

-- ---- what a call leaves is determined

pub fresh-laid-unique : FreshLaidUnique
fresh-laid-unique tasks handlers t h next due owed fs t' h' next' due' owed' fs' p q =
    let same : p.fresh ≡ q.fresh = fresh-unique tasks handlers p.fresh q.fresh p.says q.says in (
      p.tasks-laid ∙ ap (λ (f : Fresh). f.run.tasks) same ∙ sym q.tasks-laid,
      p.handlers-laid ∙ ap (λ (f : Fresh). f.run.handlers) same ∙ sym q.handlers-laid,
      p.next-laid ∙ ap (λ (f : Fresh). f.run.next) same ∙ sym q.next-laid,
      p.due-laid ∙ ap (λ (f : Fresh). f.run.due) same ∙ sym q.due-laid,
      p.owed-laid ∙ ap (λ (f : Fresh). f.run.owed) same ∙ sym q.owed-laid,
      p.figures-laid ∙ ap (λ (f : Fresh). run_numbers f.run ++ refused_numbers (refused f.answer)) same ∙ sym q.figures-laid,
    )

pub step-laid-unique : StepLaidUnique
step-laid-unique key r fs ws next due owed left next' due' owed' left' p q =
    let same : p.stepped ≡ q.stepped = step-unique key r ws p.stepped q.stepped p.says q.says in (
      p.next-laid ∙ ap (λ (s : Stepped). s.run.next) same ∙ sym q.next-laid,
      p.due-laid ∙ ap (λ (s : Stepped). s.run.due) same ∙ sym q.due-laid,
      p.owed-laid ∙ ap (λ (s : Stepped). s.run.owed) same ∙ sym q.owed-laid,
      p.figures-laid ∙ ap (left_by fs) same ∙ sym q.figures-laid,
    )

-- A refused step leaves all numbers of the run as they were, be they in bounds or not.
pub refused-keeps : RefusedKeeps
refused-keeps key t h next due owed fs ws next' due' owed' fs' laid some =
    let r : Run = run_in t h next due owed fs in
    let k : ℕ = step_refusal (run_in t h next due owed fs) ws in
    let same : laid.stepped.run ≡ r = laid.says.same some in
    let apart : k ≡ 0 → ⊥ = λ none. omega arith in
    let is : laid.stepped.answer ≡ Err (refusal_at k) = ap (λ (x : Stepped). x.answer) (laid.says.answer ∙ step-refused key r ws k refl apart) in
    record {
      next-kept = laid.next-laid ∙ ap (λ (x : Run). x.next) same;
      due-kept = laid.due-laid ∙ ap (λ (x : Run). x.due) same;
      owed-kept = laid.owed-laid ∙ ap (λ (x : Run). x.owed) same;
      figures-kept = laid.figures-laid ∙ ap (left_with fs laid.stepped.run) is ∙ ap (refused_layout fs) (step-known r ws apart);
    }

-- ---- what is laid out of an answer are its figures

ran-laid : (ran : Ran) (late : Option ℕ) → answer_numbers 0 ran late ≡ numbers_of (tick_figures ran late)
ran-laid (ran.Handler i) None = refl
ran-laid (ran.Handler i) (Some j) = refl
ran-laid (ran.Task i) None = refl
ran-laid (ran.Task i) (Some j) = refl
ran-laid ran.Idle None = refl
ran-laid ran.Idle (Some j) = refl

pub figures-laid : FiguresLaid
unfolding figures
figures-laid = record { ticked = λ t. ran-laid t.ran t.late; refused = λ k. refl; refusal = λ e. refl }
