-- A yes (00, demand 3).
--   NeverLate              after a yes no run from fresh is ever over, whatever is offered and however often it is refused
use Rattle.demand.specs.declared.refusal.Refusal.{Refusal}
use Rattle.std.specs.Prelude.{List, ◌≡◌, ℕ, Result}
use Rattle.machine.specs.Live.{due_of}
use Rattle.verdict.specs.Promise.{figures, VerdictSays}
use Rattle.verdict.specs.Promise.Word.{fits}
use Rattle.verdict.specs.declared.Answer as verdict
use Rattle.guarantees.specs.LegalOnTime.{NeverOver}

abbrev pub NeverLate : Type 0
NeverLate = (t h : List ℕ) (r : Result verdict.Answer Refusal) → VerdictSays t h r → (figures r).word ≡ fits → NeverOver due_of t h
