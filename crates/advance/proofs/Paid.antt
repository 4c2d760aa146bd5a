-- One row alone runs: what it leaves owed, and that it goes on running while it is owed work.
use mathlib.Core.Bool.{Bool, true, false, ◌&&◌}
use mathlib.Core.List.{List}
use mathlib.Core.Logic.{◌⊎◌, inl, inr}
use mathlib.Core.Path.{◌≡◌, refl, ap, subst, ◌∙◌}
use native.Mathlib.Omega.{arith}
use borrow.Author.Tests.{ltb-true, eqb-true, eqb-false, ne_eqb}
use Prim.Native.Nat.{ℕ, ◌+◌, ◌-◌, ◌≤◌, ◌<◌}
use lib.Dec.{ltb, eqb}
use lib.ListN.{length, get_or, set, get_or-eq_default}
use lib.Seq.{get_or-set_same, get_or-set_other, set-set, set-get_or}
use Rattle.std.specs.Prelude.{None, Some}
use Rattle.advance.specs.Inside.Alone.{work_of, less_by, paid_by, Placed, PayableBy}
use Rattle.demand.proofs.Divide.{le-or-lt}
use Rattle.demand.specs.Limits.{tasks_most, handlers_most, ticks_most}
use Rattle.scheduler.proofs.Steps.Goes.{goes-to, goes-once}
use Rattle.scheduler.proofs.Steps.Scan.{any_false, first-none}
use Rattle.scheduler.specs.Tick.{GoesTo, goes_to, is_late, late_row}
use Rattle.scheduler.specs.declared.Ran.{Ran}
use Rattle.scheduler.specs.declared.Ran.TheVariants.{Handler, Task, Idle}

-- A place that holds more than 0 is within the list.
inside : (xs : List ℕ) (w : ℕ) → 0 < get_or xs w 0 → w < length xs
inside xs w some = go (le-or-lt (length xs) w)
  where
    go : (length xs ≤ w) ⊎ (w < length xs) → w < length xs
    go (inl out) = absurd (omega (arith, get_or-eq_default {A = ℕ} xs 0 {n = w} out))
    go (inr l) = l

-- ---- at one place

less-at : (xs : List ℕ) (w d : ℕ) → 0 < get_or xs w 0 → get_or (less_by xs w d) w 0 ≡ get_or xs w 0 - d
less-at xs w d some = get_or-set_same xs w (get_or xs w 0 - d) 0 (inside xs w some)

less_zero : (xs : List ℕ) (w : ℕ) → less_by xs w 0 ≡ xs
less_zero xs w = let e : get_or xs w 0 - 0 ≡ get_or xs w 0 = omega arith in rw e (set-get_or xs w 0)

less-add : (xs : List ℕ) (w a b : ℕ) → 0 < get_or xs w 0 → less_by (less_by xs w a) w b ≡ less_by xs w (a + b)
less-add xs w a b some =
    set-set xs w (get_or xs w 0 - a) (get_or (less_by xs w a) w 0 - b)
    ∙ ap (λ (x : ℕ). set xs w x)
    (let e : get_or (less_by xs w a) w 0 - b ≡ get_or xs w 0 - (a + b) = omega (arith, less-at xs w a some) in e)

less-still : (xs : List ℕ) (w d j : ℕ) → d < get_or xs w 0 → 0 < get_or xs j 0 → 0 < get_or (less_by xs w d) j 0
less-still xs w d j more some = go (eqb j w) refl
  where
    go : (b : Bool) → eqb j w ≡ b → 0 < get_or (less_by xs w d) j 0
    go true e = let same : j ≡ w = eqb-true j w e in rw same (omega (arith, less-at xs w d (omega arith)))
    go false e = omega (arith, get_or-set_other xs w j (get_or xs w 0 - d) 0 (eqb-false j w e))

less-le : (xs : List ℕ) (w d j : ℕ) → 0 < get_or xs w 0 → get_or (less_by xs w d) j 0 ≤ get_or xs j 0
less-le xs w d j some = go (eqb j w) refl
  where
    go : (b : Bool) → eqb j w ≡ b → get_or (less_by xs w d) j 0 ≤ get_or xs j 0
    go true e = let same : j ≡ w = eqb-true j w e in rw same (omega (arith, less-at xs w d some))
    go false e = omega (arith, get_or-set_other xs w j (get_or xs w 0 - d) 0 (eqb-false j w e))

-- ---- of the one that runs

module _ (owed : List ℕ) (n : ℕ) where
  pub paid-zero : (ran : Ran) → paid_by owed n ran 0 ≡ owed
  paid-zero (Handler i) = less_zero owed (n + i)
  paid-zero (Task i) = less_zero owed i
  paid-zero Idle = refl

  pub paid-add : (ran : Ran) (a b : ℕ) → 0 < work_of owed n ran → paid_by (paid_by owed n ran a) n ran b ≡ paid_by owed n ran (a + b)
  paid-add (Handler i) a b some = less-add owed (n + i) a b some
  paid-add (Task i) a b some = less-add owed i a b some
  paid-add Idle a b some = refl

  -- Others owed work are still owed it, ..
  pub paid-still : (ran : Ran) (d j : ℕ) → d < work_of owed n ran → 0 < get_or owed j 0 → 0 < get_or (paid_by owed n ran d) j 0
  paid-still (Handler i) d j more some = less-still owed (n + i) d j more some
  paid-still (Task i) d j more some = less-still owed i d j more some
  paid-still Idle d j more some = some

  -- .. and nobody is owed more.
  pub paid-most : (ran : Ran) (d j : ℕ) → 0 < work_of owed n ran → get_or (paid_by owed n ran d) j 0 ≤ get_or owed j 0
  paid-most (Handler i) d j some = less-le owed (n + i) d j some
  paid-most (Task i) d j some = less-le owed i d j some
  paid-most Idle d j some = omega arith

  -- Its work is done.
  pub paid-off : (ran : Ran) (d : ℕ) → 0 < work_of owed n ran → work_of owed n ran ≤ d → d < ticks_most
      → work_of (paid_by owed n ran d) n ran ≡ 0
  paid-off (Handler i) d some all few = omega (arith, less-at owed (n + i) d some)
  paid-off (Task i) d some all few = omega (arith, less-at owed i d some)
  paid-off Idle d some all few = absurd (omega arith)

  -- It has some left after one tick.
  pub work-more : (ran : Ran) → 0 < work_of owed n ran → 0 < work_of (paid_by owed n ran 1) n ran → 1 < work_of owed n ran
  work-more (Handler i) some left = omega (arith, less-at owed (n + i) 1 some)
  work-more (Task i) some left = omega (arith, less-at owed i 1 some)
  work-more Idle some left = omega arith

-- Who runs goes by who is owed work, not by how much.
goes_same : (key : ℕ → ℕ) (owed owed' : List ℕ) (n m : ℕ) (ran : Ran)
    → ((j : ℕ) → get_or owed' j 0 ≤ get_or owed j 0) → ((j : ℕ) → 0 < get_or owed j 0 → 0 < get_or owed' j 0)
    → GoesTo key owed n m ran → GoesTo key owed' n m ran
unfolding GoesTo
goes_same key owed owed' n m (Handler i) le still g = record {
  row = g.row;
  work = still (n + i) g.work;
  first = λ j l. omega (arith, le (n + j), g.first j l);
}
goes_same key owed owed' n m (Task i) le still g = record {
  no-handler = λ j l. omega (arith, le (n + j), g.no-handler j l);
  row = g.row;
  work = still i g.work;
  earliest = λ j l w. g.earliest j l (omega (arith, le j));
  lowest = λ j l w e. g.lowest j l (omega (arith, le j)) e;
}
goes_same key owed owed' n m Idle le still g = record {
  no-handler = λ j l. omega (arith, le (n + j), g.no-handler j l);
  no-task = λ j l. omega (arith, le j, g.no-task j l);
}

-- The one that runs is owed work, ..
pub goes-work : (key : ℕ → ℕ) (owed : List ℕ) (n m : ℕ) (ran : Ran) → GoesTo key owed n m ran → 0 < work_of owed n ran
unfolding GoesTo
goes-work key owed n m (Handler i) g = g.work
goes-work key owed n m (Task i) g = g.work
goes-work key owed n m Idle g = omega arith

-- .. goes on while it is, ..
pub goes_on : (key : ℕ → ℕ) (owed : List ℕ) (n m : ℕ) (ran : Ran) (d : ℕ) → goes_to key owed n m ≡ ran → d < work_of owed n ran
    → goes_to key (paid_by owed n ran d) n m ≡ ran
goes_on key owed n m ran d e more =
    let was : GoesTo key owed n m ran = subst (GoesTo key owed n m) e (goes-to key owed n m) in
    let owed' : List ℕ = paid_by owed n ran d in
    goes-once key owed' n m (goes_to key owed' n m) ran (goes-to key owed' n m)
    (goes_same key owed owed' n m ran (λ j. paid-most owed n ran d j (omega arith)) (λ j some. paid-still owed n ran d j more some) was)

-- .. and has a place.
pub goes-placed : (key : ℕ → ℕ) (owed : List ℕ) (n m : ℕ) (ran : Ran) → n ≤ tasks_most → m ≤ handlers_most
    → GoesTo key owed n m ran → Placed ran
unfolding GoesTo Placed
goes-placed key owed n m (Handler i) few-tasks few-handlers g = omega (arith, g.row)
goes-placed key owed n m (Task i) few-tasks few-handlers g = omega (arith, g.row)
goes-placed key owed n m Idle few-tasks few-handlers g = tt

-- Where every task owed work has its deadline ahead nobody is late.
pub ahead-nobody : (clock : ℕ) (due : ℕ → ℕ) (owed : List ℕ) (n : ℕ)
    → ((j : ℕ) → j < n → 0 < get_or owed j 0 → clock < due j) → late_row clock due owed n ≡ None
unfolding late_row
ahead-nobody clock due owed n ahead =
    first-none (is_late clock due owed) Some n None
    (any_false (is_late clock due owed) n (λ j l. go j l (ltb 0 (get_or owed j 0)) refl))
  where
    go : (j : ℕ) → j < n → (b : Bool) → ltb 0 (get_or owed j 0) ≡ b → (b && eqb (due j) clock) ≡ false
    go j l true e = ne_eqb (due j) clock (λ same. omega (arith, ahead j l (ltb-true 0 (get_or owed j 0) e)))
    go j l false e = refl

-- ---- as the code meets it

module _ (ran : Ran) (i : ℕ) (p : Placed ran) where
  pub handler-placed : ran ≡ Handler i → i < handlers_most
  unfolding Placed
  handler-placed e = rw e at p

  pub task-placed : ran ≡ Task i → i < tasks_most
  unfolding Placed
  task-placed e = rw e at p

module _ (owed : List ℕ) (n : ℕ) (ran : Ran) (d i : ℕ) (p : PayableBy owed n ran d) where
  pub handler-pays-by : ran ≡ Handler i → (i < handlers_most) × (d ≤ get_or owed (n + i) 0)
  unfolding PayableBy
  handler-pays-by e = rw e at p

  pub task-pays-by : ran ≡ Task i → (i < tasks_most) × (d ≤ get_or owed i 0)
  unfolding PayableBy
  task-pays-by e = rw e at p

-- One that has a place can pay for as many ticks as it has work for.
pub pays-by : (owed : List ℕ) (n : ℕ) (ran : Ran) (d : ℕ) → Placed ran → d ≤ work_of owed n ran → PayableBy owed n ran d
unfolding Placed PayableBy
pays-by owed n (Handler i) d p l = (p, l)
pays-by owed n (Task i) d p l = (p, l)
pays-by owed n Idle d p l = tt
