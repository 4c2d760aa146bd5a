-- Who gets the tick: the one that the rule names, and no other.
use mathlib.Core.Bool.{false}
use mathlib.Core.List.{List}
use mathlib.Core.Logic.{◌⊎◌, inl, inr}
use mathlib.Core.Path.{◌≡◌, refl, sym, subst}
use native.Mathlib.Omega.{arith}
use borrow.Author.Tests.{ltb-true, ltb-false}
use Prim.Native.Nat.{ℕ, ◌+◌, ◌≤◌, ◌<◌}
use lib.ListN.{get_or}
use Rattle.std.specs.Prelude.{Option, None, Some}
use Rattle.demand.proofs.Divide.{le-or-lt}
use Rattle.demand.specs.Limits.{tasks_most, handlers_most}
use Rattle.scheduler.specs.Scans.{any}
use Rattle.scheduler.specs.Tick.{ToHandler, ToTask, GoesTo, earliest, to_task, owed_at, goes_to}
use Rattle.scheduler.specs.Inside.Counted.{Payable}
use Rattle.scheduler.specs.declared.Ran.{Ran}
use Rattle.scheduler.specs.declared.Ran.TheVariants.{Handler, Task, Idle}
use Rattle.scheduler.specs.declared.tick.Best.{Best}
use Rattle.scheduler.proofs.Steps.Earliest.{Earliest, earliest-is}
use Rattle.scheduler.proofs.Steps.Scan.{any_at, first-none, first-here, Found, find}
use Rattle.scheduler.proofs.Steps.Scan.Found.{nowhere, first}

module _ (key : ℕ → ℕ) (owed : List ℕ) (n m : ℕ) where
  -- A place that the test passed over is owed nothing.
  not-owed : (i j : ℕ) → any (owed_at owed n) i ≡ false → j < i → get_or owed (n + j) 0 ≡ 0
  not-owed i j e l = omega (arith, ltb-false 0 (get_or owed (n + j) 0) (any_at (owed_at owed n) i j e l))

  -- No handler is owed work: to the task found, if any.
  to-task : any (owed_at owed n) m ≡ false → (b : Option Best) → Earliest key owed n b → GoesTo key owed n m (to_task b)
  unfolding GoesTo
  to-task none (Some b) e = record {
    no-handler = λ j l. not-owed m j none l;
    row = e.row;
    work = e.work;
    earliest = λ j l w. omega (arith, e.key_of, e.least j l w);
    lowest = λ j l w same. omega (arith, e.key_of, e.lowest j l w);
  }
  to-task none None e = record { no-handler = λ j l. not-owed m j none l; no-task = e }

  pub goes-to : GoesTo key owed n m (goes_to key owed n m)
  unfolding goes_to
  goes-to = go (find (owed_at owed n) m)
    where
      tasks : Ran
      tasks = to_task (earliest key owed n)

      go : Found (owed_at owed n) m → GoesTo key owed n m (goes_to key owed n m)
      go (first i l q e) =
          subst (GoesTo key owed n m) (sym (first-here (owed_at owed n) Handler i m tasks e q l))
          (unfold GoesTo in record { row = l; work = ltb-true _ _ q; first = λ j below. not-owed i j e below })
      go (nowhere e) =
          subst (GoesTo key owed n m) (sym (first-none (owed_at owed n) Handler m tasks e)) (to-task e (earliest key owed n) (earliest-is key owed n))

  -- ---- and no other

  same-handler : (i j : ℕ) → ToHandler owed n m i → ToHandler owed n m j → i ≤ j
  same-handler i j x y = go (le-or-lt i j)
    where
      go : (i ≤ j) ⊎ (j < i) → i ≤ j
      go (inl l) = l
      go (inr l) = absurd (omega (arith, x.first j l, y.work))

  same-task : (i j : ℕ) → ToTask key owed n m i → ToTask key owed n m j → i ≤ j
  same-task i j x y = go (le-or-lt i j)
    where
      go : (i ≤ j) ⊎ (j < i) → i ≤ j
      go (inl l) = l
      go (inr l) = absurd (x.lowest j l y.work (omega (arith, x.earliest j y.row y.work, y.earliest i x.row x.work)))

  pub goes-once : (a b : Ran) → GoesTo key owed n m a → GoesTo key owed n m b → a ≡ b
  unfolding GoesTo
  goes-once (Handler i) (Handler j) x y = let e : i ≡ j = omega (arith, same-handler i j x y, same-handler j i y x) in rw e
  goes-once (Handler i) (Task j) x y = absurd (omega (arith, x.work, y.no-handler i x.row))
  goes-once (Handler i) Idle x y = absurd (omega (arith, x.work, y.no-handler i x.row))
  goes-once (Task i) (Handler j) x y = absurd (omega (arith, y.work, x.no-handler j y.row))
  goes-once (Task i) (Task j) x y = let e : i ≡ j = omega (arith, same-task i j x y, same-task j i y x) in rw e
  goes-once (Task i) Idle x y = absurd (omega (arith, x.work, y.no-task i x.row))
  goes-once Idle (Handler j) x y = absurd (omega (arith, y.work, x.no-handler j y.row))
  goes-once Idle (Task j) x y = absurd (omega (arith, y.work, x.no-task j y.row))
  goes-once Idle Idle x y = refl

  -- ---- it can pay

  can-pay : n ≤ tasks_most → m ≤ handlers_most → (ran : Ran) → GoesTo key owed n m ran → Payable owed n ran
  unfolding GoesTo Payable
  can-pay few-tasks few-handlers (Handler i) g = (omega (arith, g.row), g.work)
  can-pay few-tasks few-handlers (Task i) g = (omega (arith, g.row), g.work)
  can-pay few-tasks few-handlers Idle g = tt

  pub goes-pays : n ≤ tasks_most → m ≤ handlers_most → (ran : Ran) → ran ≡ goes_to key owed n m → Payable owed n ran
  goes-pays few-tasks few-handlers ran e = can-pay few-tasks few-handlers ran (subst (GoesTo key owed n m) (sym e) goes-to)

module _ (owed : List ℕ) (n : ℕ) (ran : Ran) (i : ℕ) (p : Payable owed n ran) where
  pub handler-pays : ran ≡ Handler i → (i < handlers_most) × (0 < get_or owed (n + i) 0)
  unfolding Payable
  handler-pays e = rw e at p

  pub task-pays : ran ≡ Task i → (i < tasks_most) × (0 < get_or owed i 0)
  unfolding Payable
  task-pays e = rw e at p
