-- What `of_table` promises (02, M-113).
--   quantum_most            == the longest quantum
--   quantum_outside q       == it is 0 or longer than that: the test of 19
--   charge_of l             == fits or misses by the load l: at most 1,000,000 fits
--   plain ts               == every deadline is the period
--   charged t h            == the table is readable and plain: else the two other ways have none
--   by_quantum q t h, by_task t h   == the charges of the table t, h in the two other ways
--   ChargeSays t h q r     r is the answer to the table t, h with a quantum of q ticks
use Rattle.std.specs.Prelude.{Bool, true, false, not, ◌&&◌, ◌||◌, List, ◌≡◌, ℕ, eqb, leb, ltb, Result, Ok, Err, Option, Some, None}
use Rattle.charges.specs.Ways.{useful, quantum_cost, task_cost, load_by}
use Rattle.charges.specs.declared.Charge.{Charge}
use Rattle.charges.specs.declared.Charge.TheVariants as charge
use Rattle.charges.specs.declared.Charged.{Charged}
use Rattle.demand.specs.Numbered.{number_of}
use Rattle.demand.specs.Rows.{Row, tasks_of, handlers_of, some}
use Rattle.demand.specs.Tests.{pick}
use Rattle.demand.specs.declared.refusal.Refusal.{Refusal}
use Rattle.verdict.specs.Promise.{verdict_refusal, VerdictSays}

-- 19: a quantum out of its range, before any table
abbrev pub quantum_most : ℕ
quantum_most = 100000

abbrev pub quantum_outside : ℕ → Bool
quantum_outside q = eqb q 0 || ltb quantum_most q

-- ---- the two other charges

abbrev pub charge_of : ℕ → Charge
charge_of l = pick (leb l 1000000) (charge.Fits l) (charge.Misses l)

-- a deadline that is not the period
abbrev pub shorter : Row → Bool
shorter r = not (eqb r.deadline r.period)

abbrev pub plain : List Row → Bool
plain ts = not (some shorter ts)

abbrev pub charged : List ℕ → List ℕ → Bool
charged t h = eqb (verdict_refusal t h) 0 && plain (tasks_of t)

-- none where nothing of the quantum is useful
unfoldable pub by_quantum : ℕ → List ℕ → List ℕ → Option Charge
by_quantum q t h =
    pick (charged t h && ltb 0 (useful q (handlers_of h))) (Some (charge_of (load_by (quantum_cost q (handlers_of h)) (tasks_of t)))) None

unfoldable pub by_task : List ℕ → List ℕ → Option Charge
by_task t h = pick (charged t h) (Some (charge_of (load_by (task_cost (handlers_of h)) (tasks_of t)))) None

-- ---- what an answer says

-- The exact verdict beside the two other charges.
pub record SaysCharged (t h : List ℕ) (q : ℕ) (c : Charged) : Type 0 where
  pub inside : quantum_outside q ≡ false
  pub exact : VerdictSays t h c.exact
  pub quantum : c.quantum ≡ by_quantum q t h
  pub task : c.task ≡ by_task t h

-- 19, whatever the table is.
pub record SaysRefused (q n : ℕ) : Type 0 where
  pub outside : quantum_outside q ≡ true
  pub number : n ≡ 19

unfoldable pub ChargeSays : List ℕ → List ℕ → ℕ → Result Charged Refusal → Type 0
ChargeSays t h q (Ok charged) = SaysCharged t h q charged
ChargeSays t h q (Err e) = SaysRefused q (number_of e)
