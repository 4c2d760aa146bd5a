-- A no, of every schedule (00, demand 3).
--   NoScheduler            after a no no schedule that puts handlers first meets every deadline up to the end of the named interval
--   OursIsOne              after a no our scheduler's synchronous run is such a schedule, and meets every deadline before
--   Met t h n              some such schedule meets every deadline up to clock n
--   FitsMet                after a yes there is one for every n: ours
--   Optimal                if some schedule that puts handlers first meets every deadline for ever, the verdict is a yes
use Rattle.demand.specs.declared.refusal.Refusal.{Refusal}
use Rattle.std.specs.Prelude.{List, ◌≡◌, ℕ, ◌<◌, Result}
use Rattle.demand.specs.Rows.{tasks_of, handlers_of}
use Rattle.verdict.specs.Promise.{figures, VerdictSays, verdict_refusal}
use Rattle.verdict.specs.Promise.Word.{fits, misses}
use Rattle.verdict.specs.declared.Answer as verdict
use Rattle.machine.specs.Live.{Live}
use Rattle.machine.specs.Machine.{sync}
use Rattle.machine.specs.Schedules.{Timely}

abbrev pub NoScheduler : Type 0
NoScheduler =
    (t h : List ℕ) (r : Result verdict.Answer Refusal) → VerdictSays t h r → (figures r).word ≡ misses
    → (xs ys : List Live) → Timely (tasks_of t) (handlers_of h) (figures r).interval xs ys → ⊥

abbrev pub OursIsOne : Type 0
OursIsOne =
    (t h : List ℕ) (r : Result verdict.Answer Refusal) → VerdictSays t h r → (figures r).word ≡ misses
    → (n : ℕ) → n < (figures r).interval
    → Timely (tasks_of t) (handlers_of h) n (sync n (tasks_of t) (handlers_of h)).tasks (sync n (tasks_of t) (handlers_of h)).handlers

-- some schedule meets every deadline up to clock n
pub record Met (t h : List ℕ) (n : ℕ) : Type 0 where
  pub tasks : List Live
  pub handlers : List Live
  pub timely : Timely (tasks_of t) (handlers_of h) n tasks handlers

abbrev pub FitsMet : Type 0
FitsMet = (t h : List ℕ) (r : Result verdict.Answer Refusal) → VerdictSays t h r → (figures r).word ≡ fits → (n : ℕ) → Met t h n

abbrev pub Optimal : Type 0
Optimal =
    (t h : List ℕ) (r : Result verdict.Answer Refusal) → verdict_refusal t h ≡ 0 → VerdictSays t h r
    → ((n : ℕ) → Met t h n) → (figures r).word ≡ fits
