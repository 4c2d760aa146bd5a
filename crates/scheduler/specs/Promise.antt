-- What `fresh` and `step` promise (01, "Numbered refusals", "Forms for each place" and "How much each statement must say").
--   Who, Figures           == nobody, a handler or a task; the number of a step's answer, who ran and who is late, each with its row
--   tick_figures ran late   == the figures of a tick that went to ran, at whose end late is late
--   no_figures k            == those of refusal k: its number, all others 0
--   figures answer         == the paper's number and values for each case of a step's answer
--   figures_by key r ws     == the figures of a step of run r with arrivals ws, where the smallest key of the tasks owed work runs
--   FreshSays t h a        a is the answer to `fresh` of the table t, h
--   StepSays key r ws a    a is the answer to that step; in 01 the key is the deadline
--   FreshUnique, StepUnique   two answers that a promise allows are equal
use Rattle.std.specs.Prelude.{List, Option, None, Some, Result, Ok, Err, ◌≡◌, ℕ, ◌<◌, eqb}
use Rattle.demand.specs.Numbered.{number_of, refused}
use Rattle.demand.specs.Refusals.{table_refusal}
use Rattle.demand.specs.Tests.{pick}
use Rattle.demand.specs.declared.refusal.Refusal.{Refusal}
use Rattle.machine.specs.Live.{Live}
use Rattle.scheduler.specs.Start.{no_run, fresh_of}
use Rattle.scheduler.specs.Steps.{step_refusal, step_by}
use Rattle.scheduler.specs.Tick.{ran_by, late_by}
use Rattle.scheduler.specs.declared.Fresh.{Fresh}
use Rattle.scheduler.specs.declared.Ran.{Ran}
use Rattle.scheduler.specs.declared.Ran.TheVariants as ran
use Rattle.scheduler.specs.declared.Run.{Run}
use Rattle.scheduler.specs.declared.Stepped.{Stepped}
use Rattle.scheduler.specs.declared.Ticked.{Ticked}

-- ---- the figures of an answer

pub data Who : Type 0 where
  nobody : Who
  handler : Who
  task : Who

pub record Figures : Type 0 where
  pub code : ℕ
  pub ran : Who
  pub row : ℕ
  pub late : Who
  pub late_row : ℕ

abbrev pub who_ran : Ran → Who
who_ran (ran.Handler i) = handler
who_ran (ran.Task i) = task
who_ran ran.Idle = nobody

abbrev pub row_ran : Ran → ℕ
row_ran (ran.Handler i) = i
row_ran (ran.Task i) = i
row_ran ran.Idle = 0

abbrev pub who_late : Option ℕ → Who
who_late None = nobody
who_late (Some i) = task

abbrev pub row_late : Option ℕ → ℕ
row_late None = 0
row_late (Some i) = i

abbrev pub tick_figures : Ran → Option ℕ → Figures
tick_figures ran late = record { code = 0; ran = who_ran ran; row = row_ran ran; late = who_late late; late_row = row_late late }

abbrev pub no_figures : ℕ → Figures
no_figures k = record { code = k; ran = nobody; row = 0; late = nobody; late_row = 0 }

unfoldable pub figures : Result Ticked Refusal → Figures
figures (Ok t) = tick_figures t.ran t.late
figures (Err e) = no_figures (number_of e)

-- ---- the promises

-- beside a refusal stands a run of zeros
pub record FreshSays (t h : List ℕ) (a : Fresh) : Type 0 where
  pub answer : a ≡ fresh_of t h
  pub figured : refused a.answer ≡ table_refusal t h
  pub zeros : 0 < table_refusal t h → a.run ≡ no_run

-- the tick's figures only where nothing is refused
unfoldable pub figures_by : (Live → ℕ) → Run → List ℕ → Figures
figures_by key r ws = pick (eqb (step_refusal r ws) 0) (tick_figures (ran_by key r ws) (late_by key r ws)) (no_figures (step_refusal r ws))

-- beside a refusal stands the run that was given
pub record StepSays (key : Live → ℕ) (r : Run) (ws : List ℕ) (a : Stepped) : Type 0 where
  pub answer : a ≡ step_by key r ws
  pub figured : figures a.answer ≡ figures_by key r ws
  pub same : 0 < step_refusal r ws → a.run ≡ r

-- ---- they allow one answer

abbrev pub FreshUnique : Type 0
FreshUnique = (t h : List ℕ) (a b : Fresh) → FreshSays t h a → FreshSays t h b → a ≡ b

abbrev pub StepUnique : Type 0
StepUnique = (key : Live → ℕ) (r : Run) (ws : List ℕ) (a b : Stepped) → StepSays key r ws a → StepSays key r ws b → a ≡ b
