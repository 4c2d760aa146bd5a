-- Who is chosen goes by the keys of the tasks alone.
use mathlib.Core.List.{List}
use mathlib.Core.Path.{◌≡◌, refl, ap, ap₂}
use native.Mathlib.Numerals.{add-one}
use native.Mathlib.Omega.{arith}
use borrow.Author.Tests.{lt-ltb}
use Prim.Native.Nat.{ℕ, zero, suc, ◌+◌, ◌≤◌, ◌<◌}
use lib.ListN.{get_or, set, replicate, length-replicate}
use Rattle.std.specs.Prelude.{Option}
use Rattle.demand.specs.Limits.{tasks_most}
use Rattle.demand.specs.Rows.{row_at, tasks_of}
use Rattle.scheduler.specs.Inside.Keys.{key_of, keys_on, periods_of}
use Rattle.scheduler.specs.Scans.{at, first_of, filled}
use Rattle.scheduler.specs.Tick.{better, earliest, owed_at, to_task, goes_to, key_with}
use Rattle.scheduler.specs.declared.Ran.TheVariants as ran
use Rattle.scheduler.specs.declared.Run.{Run}
use Rattle.scheduler.specs.declared.tick.Best.{Best}
use Rattle.scheduler.specs.declared.tick.Key.{Key}
use Rattle.scheduler.specs.declared.tick.Key.TheVariants.{Deadline, Period}
use Rattle.scheduler.proofs.Steps.Scan.{filled-below}

earliest-same : (f g : ℕ → ℕ) (owed : List ℕ) (n : ℕ) → ((k : ℕ) → k < n → f k ≡ g k) → earliest f owed n ≡ earliest g owed n
unfolding earliest
earliest-same f g owed zero same = refl
earliest-same f g owed (suc n) same =
    ap₂ (λ (best : Option Best) (key : ℕ). better best n (get_or owed n 0) key) (earliest-same f g owed n (λ k l. same k (omega arith))) (same n (omega arith))

-- Keys that are equal below n choose the same of n tasks.
pub goes_same : (f g : ℕ → ℕ) (owed : List ℕ) (n m : ℕ) → ((k : ℕ) → k < n → f k ≡ g k) → goes_to f owed n m ≡ goes_to g owed n m
unfolding goes_to
goes_same f g owed n m same = ap (λ (best : Option Best). first_of (owed_at owed n) ran.Handler m (to_task best)) (earliest-same f g owed n same)

-- The keys that the code has in hand are those of the rows at work.
pub keys-same : (key : Key) (r : Run) (next due owed : List ℕ)
    → goes_to (keys_on key r.tasks due) owed r.task_count r.handler_count
    ≡ goes_to (key_with (key_of key) r next due owed) owed r.task_count r.handler_count
keys-same Deadline r next due owed = refl
keys-same Period r next due owed =
    goes_same (keys_on Period r.tasks due) (key_with (key_of Period) r next due owed) owed r.task_count r.handler_count
    (λ k l. rw (lt-ltb k r.task_count l))

-- Periods that were written down.
pub periods-keys : (t due owed : List ℕ) (n m : ℕ) → n ≤ tasks_most → goes_to (at (periods_of t n)) owed n m ≡ goes_to (keys_on Period t due) owed n m
unfolding periods_of
periods-keys t due owed n m few =
    goes_same (at (periods_of t n)) (keys_on Period t due) owed n m
    (λ k l. filled-below (λ j. (row_at (tasks_of t) j).period) n k (replicate tasks_most 0) l (omega (arith, length-replicate {A = ℕ} tasks_most 0)))

-- One period more.
pub periods-next : (t : List ℕ) (k : ℕ) (all : List ℕ) (p : ℕ) → all ≡ periods_of t k → p ≡ (row_at (tasks_of t) k).period → set all k p ≡ periods_of t (k + 1)
unfolding periods_of filled
periods-next t k all p e q = rw (e, q, add-one k)
