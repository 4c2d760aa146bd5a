-- A yes in one breath (00, demand 3): legal arrivals are accepted, whatever their pattern, and no job is late.
--   OnTimeAt key t h arrivals n   tick n is accepted, the clock is n, the run is not over, and nobody is late then or at the tick's end
--   NeverOver key t h             no run from fresh is ever over, whatever is offered and however often it is refused
--   OnTimeBy                      by any key: where no run is ever over, every legal pattern is so at every tick below the clock's limit
--   LegalOnTime                   after a yes every legal pattern is
use Rattle.demand.specs.declared.refusal.Refusal.{Refusal}
use Rattle.std.specs.Prelude.{false, List, ◌≡◌, ℕ, ◌<◌, Ok, None, Result}
use Rattle.demand.specs.Limits.{ticks_most}
use Rattle.machine.specs.Live.{Live, due_of}
use Rattle.scheduler.specs.Promise as step
use Rattle.scheduler.specs.Reached.{offered_by}
use Rattle.scheduler.specs.Start.{fresh_of}
use Rattle.scheduler.specs.Steps.{step_by}
use Rattle.verdict.specs.Promise.{figures, VerdictSays}
use Rattle.verdict.specs.Promise.Word.{fits}
use Rattle.verdict.specs.declared.Answer as verdict
use Rattle.guarantees.specs.LegalArrivals.{Accepted}
use Rattle.guarantees.specs.Patterns.{run_by, LegalPattern}

-- The answer to tick n tells nobody late at clock n + 1.
pub record OnTimeAt (key : Live → ℕ) (t h : List ℕ) (arrivals : ℕ → List ℕ) (n : ℕ) : Type 0 where
  pub accepted : Accepted (run_by key t h arrivals n) (arrivals n)
  pub clock : (run_by key t h arrivals n).clock ≡ n
  pub going : (run_by key t h arrivals n).over ≡ false
  pub late : (run_by key t h arrivals n).late ≡ None
  pub told : (step.figures (step_by key (run_by key t h arrivals n) (arrivals n)).answer).late ≡ step.nobody

abbrev pub NeverOver : (Live → ℕ) → List ℕ → List ℕ → Type 0
NeverOver key t h = (offers : List (List ℕ)) → (offered_by key offers (fresh_of t h).run).over ≡ false

abbrev pub OnTimeBy : Type 0
OnTimeBy =
    (key : Live → ℕ) (t h : List ℕ) → (fresh_of t h).answer ≡ Ok tt → NeverOver key t h
    → (arrivals : ℕ → List ℕ) → LegalPattern t h arrivals → (n : ℕ) → n < ticks_most → OnTimeAt key t h arrivals n

abbrev pub LegalOnTime : Type 0
LegalOnTime =
    (t h : List ℕ) (r : Result verdict.Answer Refusal) → VerdictSays t h r → (figures r).word ≡ fits
    → (arrivals : ℕ → List ℕ) → LegalPattern t h arrivals → (n : ℕ) → n < ticks_most → OnTimeAt due_of t h arrivals n
