-- A no, of our own run (00, demand 3; 01, case 13).
--   LateAtBy key t h l     the synchronous run by this key is accepted at every tick below l, over at clock l and not before
--   LateAt t h l           so by the deadline
--   LateExactly            after a no it is so at the named interval
use Rattle.demand.specs.declared.refusal.Refusal.{Refusal}
use Rattle.std.specs.Prelude.{true, false, List, ◌≡◌, ℕ, ◌≤◌, ◌<◌, Result}
use Rattle.verdict.specs.Promise.{figures, VerdictSays}
use Rattle.verdict.specs.Promise.Word.{misses}
use Rattle.verdict.specs.declared.Answer as verdict
use Rattle.machine.specs.Live.{Live, due_of}
use Rattle.scheduler.specs.Scans.{at}
use Rattle.scheduler.specs.Tick.{late_row}
use Rattle.guarantees.specs.LegalArrivals.{Accepted}
use Rattle.guarantees.specs.Synchronous.{beat_of, sync_run_by}

pub record LateAtBy (key : Live → ℕ) (t h : List ℕ) (l : ℕ) : Type 0 where
  pub accepted : (n : ℕ) → n < l → Accepted (sync_run_by key t h n) (beat_of t h n)
  pub clock : (n : ℕ) → n ≤ l → (sync_run_by key t h n).clock ≡ n
  pub on-time : (n : ℕ) → n < l → (sync_run_by key t h n).over ≡ false
  pub over : (sync_run_by key t h l).over ≡ true
  pub late : (sync_run_by key t h l).late
      ≡ late_row l (at (sync_run_by key t h l).due) (sync_run_by key t h l).owed (sync_run_by key t h l).task_count

-- the named interval is l
abbrev pub LateAt : List ℕ → List ℕ → ℕ → Type 0
LateAt t h l = LateAtBy due_of t h l

abbrev pub LateExactly : Type 0
LateExactly =
    (t h : List ℕ) (r : Result verdict.Answer Refusal) → VerdictSays t h r → (figures r).word ≡ misses → LateAt t h (figures r).interval
