-- A legal pattern of arrivals that is not the synchronous one: the task of case 6 (1/3) at ticks 1 and 4, its handler (2/10) at 1 with
-- all of its cost and at 11 with half of it; nothing at tick 0, nothing later. Two arrivals are a period apart and not a tick more.
--   twice a x b y n   == what a row brings at tick n that brings x at tick a and y at tick b
use mathlib.Core.Bool.{Bool, true, false}
use mathlib.Core.List.{List, [], ◌∷◌}
use mathlib.Core.Logic.{◌⊎◌, inl, inr}
use mathlib.Core.Path.{◌≡◌, refl}
use native.Mathlib.Omega.{arith}
use borrow.Author.Tests.{eqb-true}
use Prim.Native.Nat.{ℕ, zero, suc, ◌+◌, ◌≤◌, ◌<◌}
use lib.Dec.{eqb}
use lib.ListN.{get_or}
use Rattle.std.specs.Prelude.{None}
use Rattle.demand.specs.Limits.{ticks_most}
use Rattle.demand.specs.Rows.{tasks_of, handlers_of, row_at}
use Rattle.demand.specs.Tests.{pick}
use Rattle.machine.specs.Live.{due_of}
use Rattle.scheduler.specs.Promise.{figures, nobody}
use Rattle.scheduler.specs.Steps.{step_of}
use Rattle.guarantees.specs.LegalArrivals.{Accepted}
use Rattle.guarantees.specs.LegalOnTime.{OnTimeAt}
use Rattle.guarantees.specs.Patterns.{rows_in, run_by, LegalPattern}
use Rattle.guarantees.proofs.Instances.Cases.{tasks-6, handlers-6, answer-6, says-6, word-6}
use Rattle.guarantees.proofs.LegalOnTime.{legal-on-time}

unfoldable pub twice : ℕ → ℕ → ℕ → ℕ → ℕ → ℕ
twice a x b y n = pick (eqb n a) x (pick (eqb n b) y 0)

module _ (a x b y : ℕ) where
  -- It brings work at a and b only, ..
  twice-when : (n : ℕ) → 0 < twice a x b y n → (n ≡ a) ⊎ (n ≡ b)
  unfolding twice
  twice-when n = go (eqb n a) (eqb n b) refl refl
    where
      go : (p q : Bool) → eqb n a ≡ p → eqb n b ≡ q → 0 < pick p x (pick q y 0) → (n ≡ a) ⊎ (n ≡ b)
      go true q e f some = inl (eqb-true n a e)
      go false true e f some = inr (eqb-true n b f)
      go false false e f some = absurd (omega arith)

  -- .. so a period apart where a and b are, ..
  pub twice-apart : (period m n : ℕ) → a + period ≤ b → m < n → 0 < twice a x b y m → 0 < twice a x b y n → m + period ≤ n
  twice-apart period m n far l before now = go (twice-when m before) (twice-when n now)
    where
      go : (m ≡ a) ⊎ (m ≡ b) → (n ≡ a) ⊎ (n ≡ b) → m + period ≤ n
      go (inl p) (inl q) = absurd (omega arith)
      go (inl p) (inr q) = omega arith
      go (inr p) (inl q) = absurd (omega arith)
      go (inr p) (inr q) = absurd (omega arith)

  -- .. and never more than x or y.
  pub twice_most : (cost n : ℕ) → x ≤ cost → y ≤ cost → twice a x b y n ≤ cost
  unfolding twice
  twice_most cost n p q = go (eqb n a) (eqb n b)
    where
      go : (u v : Bool) → pick u x (pick v y 0) ≤ cost
      go true v = p
      go false true = q
      go false false = omega arith

pub arrivals-6 : ℕ → List ℕ
arrivals-6 n = twice 1 1 4 1 n ∷ twice 1 2 11 1 n ∷ []

pub legal-6 : LegalPattern tasks-6 handlers-6 arrivals-6
unfolding arrivals-6 tasks_of handlers_of
legal-6 = record { count = λ n. refl; in-cost = in-cost; apart = apart }
  where
    in-cost : (n k : ℕ) → k < 2 → get_or (arrivals-6 n) k 0 ≤ (row_at (rows_in tasks-6 handlers-6) k).cost
    in-cost n zero l = twice_most 1 1 4 1 1 n (omega arith) (omega arith)
    in-cost n (suc zero) l = twice_most 1 2 11 1 2 n (omega arith) (omega arith)
    in-cost n (suc (suc k)) l = absurd (omega arith)

    apart : (m n k : ℕ) → k < 2 → m < n → 0 < get_or (arrivals-6 m) k 0 → 0 < get_or (arrivals-6 n) k 0
        → m + (row_at (rows_in tasks-6 handlers-6) k).period ≤ n
    apart m n zero l = twice-apart 1 1 4 1 3 m n (omega arith)
    apart m n (suc zero) l = twice-apart 1 2 11 1 10 m n (omega arith)
    apart m n (suc (suc k)) l = absurd (omega arith)

-- So case 6 is on time at every tick of it, to the last one that the clock has.
pub on-time-6 : (n : ℕ) → n < ticks_most → OnTimeAt due_of tasks-6 handlers-6 arrivals-6 n
on-time-6 = legal-on-time tasks-6 handlers-6 answer-6 says-6 word-6 arrivals-6 legal-6

-- At tick 4 the task comes again and is accepted, and nobody is late at clock 5; the last tick is at clock 999,999,999.
pub again-6 : Accepted (run_by due_of tasks-6 handlers-6 arrivals-6 4) (1 ∷ 0 ∷ [])
unfolding arrivals-6 twice
again-6 = (on-time-6 4 (omega arith)).accepted

pub told-6 : (figures (step_of (run_by due_of tasks-6 handlers-6 arrivals-6 4) (1 ∷ 0 ∷ [])).answer).late ≡ nobody
unfolding arrivals-6 twice
told-6 = (on-time-6 4 (omega arith)).told

pub last-tick-6 : (run_by due_of tasks-6 handlers-6 arrivals-6 999999999).clock ≡ 999999999
last-tick-6 = (on-time-6 999999999 (omega arith)).clock

pub last-going-6 : (run_by due_of tasks-6 handlers-6 arrivals-6 999999999).over ≡ false
last-going-6 = (on-time-6 999999999 (omega arith)).going

pub last-late-6 : (run_by due_of tasks-6 handlers-6 arrivals-6 999999999).late ≡ None
last-late-6 = (on-time-6 999999999 (omega arith)).late
