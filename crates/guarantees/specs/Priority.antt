-- Fixed priorities (02, M-103), said of what `responses`, `fresh` and a step by priority promise. The tick rule is 01's with priority in
-- place of deadline: of the tasks owed work the one with the shortest period runs, the lowest row on a tie (`step_by period_of`).
--   EachResponds t h p     the answer p to the table t, h is no refusal, and it gives every task a length
--   NeverLateByPriority    then no run by priority from fresh is ever over, whatever is offered and however often it is refused
--   OnTimeByPriority       said whole: every legal pattern of arrivals is accepted at every tick below the clock's limit, nobody is late
--   FitsByDeadline         a readable table that fits here gets Fits from the verdict
--   LateBy t h i           the synchronous run by priority is late by the first deadline of task i, at which the machine still owes it work
--   LateByPriority         so where task i has no length
--   RespondsExactly        so every task has a length exactly where no run by priority from fresh is ever over
use Rattle.demand.specs.declared.refusal.Refusal.{Refusal}
use Rattle.std.specs.Prelude.{List, ◌≡◌, ℕ, ◌≤◌, ◌<◌, length, get_or, Result}
use Rattle.demand.specs.Limits.{ticks_most}
use Rattle.demand.specs.Rows.{row_at, tasks_of, handlers_of}
use Rattle.machine.specs.Live.{Live, due_of, period_of}
use Rattle.machine.specs.Machine.{serve_by, sync_by}
use Rattle.machine.specs.Places.{at_place}
use Rattle.priority.specs.Answers as priority
use Rattle.verdict.specs.Promise.{figures, VerdictSays, verdict_refusal}
use Rattle.verdict.specs.Promise.Word.{fits}
use Rattle.verdict.specs.declared.Answer as verdict
use Rattle.guarantees.specs.LateExactly.{LateAtBy}
use Rattle.guarantees.specs.LegalOnTime.{OnTimeAt, NeverOver}
use Rattle.guarantees.specs.Patterns.{LegalPattern}

-- the length that the answer gives task i, 0 for none
abbrev pub length_of : Result (List ℕ) Refusal → ℕ → ℕ
length_of p i = get_or (priority.figures p).least i 0

pub record EachResponds (t h : List ℕ) (p : Result (List ℕ) Refusal) : Type 0 where
  pub says : priority.ResponsesSay t h p
  pub accepted : (priority.figures p).code ≡ 0
  pub each : (i : ℕ) → i < length (tasks_of t) → 0 < length_of p i

abbrev pub NeverLateByPriority : Type 0
NeverLateByPriority = (t h : List ℕ) (p : Result (List ℕ) Refusal) → EachResponds t h p → NeverOver period_of t h

abbrev pub OnTimeByPriority : Type 0
OnTimeByPriority =
    (t h : List ℕ) (p : Result (List ℕ) Refusal) → EachResponds t h p
    → (arrivals : ℕ → List ℕ) → LegalPattern t h arrivals → (n : ℕ) → n < ticks_most → OnTimeAt period_of t h arrivals n

abbrev pub FitsByDeadline : Type 0
FitsByDeadline =
    (t h : List ℕ) (p : Result (List ℕ) Refusal) (r : Result verdict.Answer Refusal) → EachResponds t h p
    → verdict_refusal t h ≡ 0 → VerdictSays t h r
    → (figures r).word ≡ fits

-- the task of place i in our machine's synchronous run by priority, at the clock of its first deadline
abbrev pub at_deadline : List ℕ → List ℕ → ℕ → Live
at_deadline t h i = at_place i (sync_by (serve_by period_of) (row_at (tasks_of t) i).deadline (tasks_of t) (handlers_of h)).tasks

-- The run itself is over at the first deadline that any task misses, which may be an earlier one of another task.
pub record LateBy (t h : List ℕ) (i : ℕ) : Type 0 where
  pub owed : 0 < (at_deadline t h i).owed
  pub due : due_of (at_deadline t h i) ≡ (row_at (tasks_of t) i).deadline
  pub clock : ℕ
  pub by : clock ≤ (row_at (tasks_of t) i).deadline
  pub late : LateAtBy period_of t h clock

abbrev pub LateByPriority : Type 0
LateByPriority =
    (t h : List ℕ) (p : Result (List ℕ) Refusal) → priority.ResponsesSay t h p → (priority.figures p).code ≡ 0
    → (i : ℕ) → i < length (tasks_of t) → length_of p i ≡ 0 → LateBy t h i

abbrev pub RespondsExactly : Type 0
RespondsExactly =
    (t h : List ℕ) (p : Result (List ℕ) Refusal) → priority.ResponsesSay t h p → (priority.figures p).code ≡ 0 → NeverOver period_of t h
    → EachResponds t h p
