-- A run and an answer as numbers, in arrays that a test or a benchmark in another language lends.
-- Figures: task count, handler count, clock, over, late row and 1 (0 for nobody); then of the answer: code, who ran (0 nobody, 1 a handler,
-- 2 a task), its row, late row and 1.
--   late_number, late_of     == a late row as a number, and the reverse; over_number, over_of the same of whether a run is over
--   ran_number              == who ran, as a number
--   run_numbers r           == the five numbers of a run; answer_numbers, refused_numbers the four of an answer; layout all nine
--   refused_layout fs code  == all nine of a refusal, where the run's were the first of fs
--   numbers_of g            == the four numbers of the figures g of an answer; FiguresLaid: those are what is laid out
--   run_in t h next due owed fs   == the run that lent arrays tell
--   left_by fs s            == the figures after a step: those of a refused one keep the run's five as they were
--   LateRows s             no late row that the step s names is above the last that a run has room for
--   RefusedAs s next due owed   where the step s is refused, these are its run's numbers: so they can stay as they are
--   FreshLaid, StepLaid    what a call leaves, of an answer that the promise of `fresh` or of a step by this key allows
--   FreshLaidUnique, StepLaidUnique   and so nothing else
--   RefusedKeeps           a refused step leaves the numbers of the run exactly as they were
use Rattle.std.specs.Prelude.{Bool, true, false, not, List, [], ◌∷◌, ◌++◌, Option, None, Some}
use Rattle.std.specs.Prelude.{Result, Ok, Err, ◌≡◌, ℕ, ◌+◌, ◌-◌, ◌≤◌, ◌<◌, eqb, get_or}
use Rattle.demand.specs.Limits.{tasks_most}
use Rattle.demand.specs.Numbered.{number_of, refused as told}
use Rattle.demand.specs.Tests.{pick}
use Rattle.demand.specs.declared.refusal.Refusal.{Refusal}
use Rattle.machine.specs.Live.{Live}
use Rattle.scheduler.specs.Promise.{Who, nobody, handler, task, Figures, figures, no_figures, row_ran, FreshSays, StepSays}
use Rattle.scheduler.specs.Runs.{run_of}
use Rattle.scheduler.specs.Steps.{step_refusal}
use Rattle.scheduler.specs.declared.Fresh.{Fresh}
use Rattle.scheduler.specs.declared.Ran.{Ran}
use Rattle.scheduler.specs.declared.Ran.TheVariants as ran
use Rattle.scheduler.specs.declared.Run.{Run}
use Rattle.scheduler.specs.declared.Stepped.{Stepped}
use Rattle.scheduler.specs.declared.Ticked.{Ticked}

-- ---- a run and an answer

abbrev pub late_number : Option ℕ → ℕ
late_number None = 0
late_number (Some i) = i + 1

abbrev pub late_of : ℕ → Option ℕ
late_of n = pick (eqb n 0) None (Some (n - 1))

abbrev pub over_number : Bool → ℕ
over_number true = 1
over_number false = 0

abbrev pub over_of : ℕ → Bool
over_of n = not (eqb n 0)

abbrev pub ran_number : Ran → ℕ
ran_number (ran.Handler i) = 1
ran_number (ran.Task i) = 2
ran_number ran.Idle = 0

abbrev pub run_numbers : Run → List ℕ
run_numbers r = r.task_count ∷ r.handler_count ∷ r.clock ∷ over_number r.over ∷ late_number r.late ∷ []

abbrev pub answer_numbers : ℕ → Ran → Option ℕ → List ℕ
answer_numbers code ran late = code ∷ ran_number ran ∷ row_ran ran ∷ late_number late ∷ []

abbrev pub layout : Run → ℕ → Ran → Option ℕ → List ℕ
layout r code ran late = run_numbers r ++ answer_numbers code ran late

abbrev pub refused_numbers : ℕ → List ℕ
refused_numbers code = code ∷ 0 ∷ 0 ∷ 0 ∷ []

-- The first five as they were.
abbrev pub run_as : List ℕ → List ℕ
run_as fs = get_or fs 0 0 ∷ get_or fs 1 0 ∷ get_or fs 2 0 ∷ get_or fs 3 0 ∷ get_or fs 4 0 ∷ []

abbrev pub refused_layout : List ℕ → ℕ → List ℕ
refused_layout fs code = run_as fs ++ refused_numbers code

abbrev pub run_in : List ℕ → List ℕ → List ℕ → List ℕ → List ℕ → List ℕ → Run
run_in t h next due owed fs =
    run_of t h (get_or fs 0 0) (get_or fs 1 0) (get_or fs 2 0) next due owed (over_of (get_or fs 3 0)) (late_of (get_or fs 4 0))

-- ---- the figures of an answer (crate scheduler) in this layout

abbrev pub who_number : Who → ℕ
who_number nobody = 0
who_number handler = 1
who_number task = 2

abbrev pub row_number : Who → ℕ → ℕ
row_number nobody i = 0
row_number handler i = i + 1
row_number task i = i + 1

abbrev pub numbers_of : Figures → List ℕ
numbers_of g = g.code ∷ who_number g.ran ∷ g.row ∷ row_number g.late g.late_row ∷ []

pub record FiguresLaid : Type 0 where
  pub ticked : (t : Ticked) → answer_numbers 0 t.ran t.late ≡ numbers_of (figures (Ok t))
  pub refused : (k : ℕ) → refused_numbers k ≡ numbers_of (no_figures k)
  pub refusal : (e : Refusal) → refused_numbers (number_of e) ≡ numbers_of (figures (Err e))

-- ---- what is left in the arrays

abbrev pub left_with : List ℕ → Run → Result Ticked Refusal → List ℕ
left_with fs r (Ok t) = layout r 0 t.ran t.late
left_with fs r (Err e) = refused_layout fs (number_of e)

abbrev pub left_by : List ℕ → Stepped → List ℕ
left_by fs s = left_with fs s.run s.answer

-- No late row that a tick names is above the last that a run has room for.
abbrev pub LateRows : Stepped → Type 0
LateRows s = (t : Ticked) → s.answer ≡ Ok t → (late_number s.run.late ≤ tasks_most) × (late_number t.late ≤ tasks_most)

abbrev pub RefusedAs : Stepped → List ℕ → List ℕ → List ℕ → Type 0
RefusedAs s next due owed = (e : Refusal) → s.answer ≡ Err e → (next ≡ s.run.next) × (due ≡ s.run.due) × (owed ≡ s.run.owed)

pub record FreshLaid (tasks handlers : List ℕ) (t h next due owed fs : List ℕ) : Type 0 where
  pub fresh : Fresh
  pub says : FreshSays tasks handlers fresh
  pub tasks-laid : t ≡ fresh.run.tasks
  pub handlers-laid : h ≡ fresh.run.handlers
  pub next-laid : next ≡ fresh.run.next
  pub due-laid : due ≡ fresh.run.due
  pub owed-laid : owed ≡ fresh.run.owed
  pub figures-laid : fs ≡ run_numbers fresh.run ++ refused_numbers (told fresh.answer)

pub record StepLaid (key : Live → ℕ) (r : Run) (fs ws : List ℕ) (next' due' owed' fs' : List ℕ) : Type 0 where
  pub stepped : Stepped
  pub says : StepSays key r ws stepped
  pub next-laid : next' ≡ stepped.run.next
  pub due-laid : due' ≡ stepped.run.due
  pub owed-laid : owed' ≡ stepped.run.owed
  pub figures-laid : fs' ≡ left_by fs stepped

-- ---- nothing else, and nothing of the run where a step is refused

abbrev pub FreshLaidUnique : Type 0
FreshLaidUnique =
    (tasks handlers t h next due owed fs t' h' next' due' owed' fs' : List ℕ)
    → FreshLaid tasks handlers t h next due owed fs → FreshLaid tasks handlers t' h' next' due' owed' fs'
    → (t ≡ t') × (h ≡ h') × (next ≡ next') × (due ≡ due') × (owed ≡ owed') × (fs ≡ fs')

abbrev pub StepLaidUnique : Type 0
StepLaidUnique =
    (key : Live → ℕ) (r : Run) (fs ws next due owed left next' due' owed' left' : List ℕ)
    → StepLaid key r fs ws next due owed left → StepLaid key r fs ws next' due' owed' left'
    → (next ≡ next') × (due ≡ due') × (owed ≡ owed') × (left ≡ left')

pub record Kept (next due owed fs next' due' owed' fs' : List ℕ) (k : ℕ) : Type 0 where
  pub next-kept : next' ≡ next
  pub due-kept : due' ≡ due
  pub owed-kept : owed' ≡ owed
  pub figures-kept : fs' ≡ refused_layout fs k

abbrev pub RefusedKeeps : Type 0
RefusedKeeps =
    (key : Live → ℕ) (t h next due owed fs ws next' due' owed' fs' : List ℕ)
    → StepLaid key (run_in t h next due owed fs) fs ws next' due' owed' fs' → 0 < step_refusal (run_in t h next due owed fs) ws
    → Kept next due owed fs next' due' owed' fs' (step_refusal (run_in t h next due owed fs) ws)
