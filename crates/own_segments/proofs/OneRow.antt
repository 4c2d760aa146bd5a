-- One row of the synchronous run: whether it arrives at a tick, and what a tick takes of its work.
--   Arrives n r   row r arrives at tick n, or does not
use mathlib.Core.Bool.{Bool, true, false}
use mathlib.Core.List.{List}
use mathlib.Core.Logic.{◌⊎◌, inl, inr}
use mathlib.Core.Path.{◌≡◌, refl, ap, ◌∙◌}
use native.Mathlib.Nat.{mul-zero, mul-suc, mul-mod_left}
use native.Mathlib.Omega.{arith}
use borrow.Author.Tests.{eq-eqb, ne_eqb, eqb-true, eqb-false}
use Prim.Native.Nat.{ℕ, suc, ◌+◌, ◌-◌, ◌*◌, ◌%◌, ◌≤◌, ◌<◌}
use lib.Dec.{eqb}
use lib.ListN.{length, get_or}
use lib.Seq.{get_or-set_same, get_or-set_other}
use Rattle.demand.proofs.Divide.{ceil-zero}
use Rattle.demand.specs.Demands.{ceil}
use Rattle.demand.specs.Rows.{Row}
use Rattle.machine.proofs.Beats.{between}
use Rattle.machine.specs.Schedules.{beat}
use Rattle.own_segments.specs.Own.{who_ran}
use Rattle.scheduler.specs.Tick.{GoesTo, less, paid}
use Rattle.scheduler.specs.declared.Ran.{Ran}
use Rattle.scheduler.specs.declared.Ran.TheVariants.{Handler, Task, Idle}
use Rattle.segments.proofs.Timely.Lives.{ceil-near, ceil-step}
use Rattle.segments.specs.Given.{to_task, to_handler, work_by}

-- ---- one row

pub data Arrives (n : ℕ) (r : Row) : Type 0 where
  arrives : beat n r ≡ r.cost → ceil n r.period * r.period ≡ n → ceil (suc n) r.period ≡ suc (ceil n r.period) → Arrives n r
  waits : beat n r ≡ 0 → n < ceil n r.period * r.period → ceil (suc n) r.period ≡ ceil n r.period → Arrives n r

pub arrival : (n : ℕ) (r : Row) → 0 < r.period → Arrives n r
arrival n r pos = go (ceil-step r.period n pos)
  where
    p : ℕ
    p = r.period

    k : ℕ
    k = ceil n p

    go : ((k * p ≡ n) × (ceil (suc n) p ≡ suc k)) ⊎ ((n < k * p) × (ceil (suc n) p ≡ k)) → Arrives n r
    go (inl q) = let divides : n % p ≡ 0 = rw q.0 at (mul-mod_left k p) in arrives (rw (eq-eqb (n % p) 0 divides)) q.0 q.1
    go (inr q) =
        waits (rw (ne_eqb (n % p) 0 (λ divides. between n (k * p) p q.0 (ceil-near p n pos) (mul-mod_left k p) divides))) q.0 q.1

pub work-zero : (r : Row) → work_by r 0 ≡ 0
work-zero r = ap (λ (x : ℕ). r.cost * x) (ceil-zero r.period) ∙ mul-zero r.cost

-- An arrival calls for the cost.
pub work-next : (n : ℕ) (r : Row) → 0 < r.period → work_by r (suc n) ≡ work_by r n + beat n r
work-next n r pos = go (arrival n r pos)
  where
    go : Arrives n r → work_by r (suc n) ≡ work_by r n + beat n r
    go (arrives b at c) =
        ap (λ (x : ℕ). r.cost * x) c ∙
        (let q : r.cost * suc (ceil n r.period) ≡ r.cost * ceil n r.period + beat n r = omega
        (arith, b, mul-suc r.cost (ceil n r.period)) in q)
    go (waits b at c) =
        ap (λ (x : ℕ). r.cost * x) c ∙
        (let q : r.cost * ceil n r.period ≡ r.cost * ceil n r.period + beat n r = omega (arith, b) in q)

-- ---- the tick takes one unit of the one that runs

-- At the place itself, and at any other.
less-here : (xs : List ℕ) (w : ℕ) → w < length xs → get_or (less xs w) w 0 ≡ get_or xs w 0 - 1
less-here xs w l = get_or-set_same xs w (get_or xs w 0 - 1) 0 l

less-there : (xs : List ℕ) (w j : ℕ) → (j ≡ w → ⊥) → get_or (less xs w) j 0 ≡ get_or xs j 0
less-there xs w j apart = get_or-set_other xs w j (get_or xs w 0 - 1) 0 apart

module _ (key : ℕ → ℕ) (owed : List ℕ) (n m : ℕ) (long : n + m ≤ length owed) where
  less_one : (w j : ℕ) → w < length owed → 0 < get_or owed w 0 → get_or (less owed w) j 0 + (1 - ((w - j) + (j - w))) ≡ get_or owed j 0
  less_one w j l some = go (eqb j w) refl
    where
      go : (b : Bool) → eqb j w ≡ b → get_or (less owed w) j 0 + (1 - ((w - j) + (j - w))) ≡ get_or owed j 0
      go true e =
          let same : j ≡ w = eqb-true j w e in
          rw same (omega (arith, less-here owed w l))
      go false e =
          let apart : j ≡ w → ⊥ = eqb-false j w e in
          omega (arith, less-there owed w j apart)

  pub paid-task : (ran : Ran) → GoesTo key owed n m ran → (i : ℕ) → i < n
      → get_or (paid owed n ran) i 0 + to_task (who_ran ran) i ≡ get_or owed i 0
  unfolding GoesTo
  paid-task (Handler x) g i l = omega (arith, less-there owed (n + x) i (λ e. omega arith))
  paid-task (Task x) g i l = less_one x i (omega (arith, g.row)) g.work
  paid-task Idle g i l = omega arith

  pub paid-handler : (ran : Ran) → GoesTo key owed n m ran → (j : ℕ) → j < m
      → get_or (paid owed n ran) (n + j) 0 + to_handler (who_ran ran) j ≡ get_or owed (n + j) 0
  unfolding GoesTo
  paid-handler (Handler x) g j l =
      let one = less_one (n + x) (n + j) (omega (arith, g.row)) g.work in
      let places : (n + x - (n + j)) + (n + j - (n + x)) ≡ (x - j) + (j - x) = omega arith in
      omega (arith, one, places)
  paid-handler (Task x) g j l = omega (arith, less-there owed x (n + j) (λ e. omega (arith, g.row)))
  paid-handler Idle g j l = omega arith
