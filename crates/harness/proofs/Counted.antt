-- The steps of a benchmark, counted one by one.
use mathlib.Core.List.{List}
use mathlib.Core.Path.{◌≡◌, refl, ap, ◌∙◌}
use native.Mathlib.Nat.{zero-add, sub-zero}
use native.Mathlib.Omega.{arith}
use Prim.Native.Nat.{ℕ, zero, suc, ◌+◌, ◌-◌, ◌≤◌, ◌<◌}
use lib.ListN.{replicate}
use Rattle.std.specs.Prelude.{Result, Ok, Err}
use Rattle.demand.specs.declared.refusal.Refusal.{Refusal}
use Rattle.machine.specs.Live.{due_of}
use Rattle.scheduler.specs.Books.{ticking, busy, busy_by}
use Rattle.scheduler.specs.Promise.{StepSays}
use Rattle.scheduler.specs.declared.Ran.{Ran}
use Rattle.scheduler.specs.declared.Ran.TheVariants.{Handler, Task, Idle}
use Rattle.scheduler.specs.declared.Run.{Run}
use Rattle.scheduler.specs.declared.Stepped.{Stepped}
use Rattle.scheduler.specs.declared.Ticked.{Ticked}

-- A step is at most one tick that is not idle.
ticking-most : (ran : Ran) → ticking ran ≤ 1
ticking-most (Handler i) = omega arith
ticking-most (Task i) = omega arith
ticking-most Idle = omega arith

pub busy-most : (a : Result Ticked Refusal) → busy a ≤ 1
busy-most (Ok t) = ticking-most t.ran
busy-most (Err e) = omega arith

-- Steps to come, of ticks in all where i are done.
pub to_come : ℕ → ℕ → List ℕ → Run → ℕ
to_come ticks i rest r = busy_by due_of (replicate (ticks - i) rest) r

pub to-come-start : (ticks : ℕ) (rest : List ℕ) (r : Run) → 0 + to_come ticks 0 rest r ≡ busy_by due_of (replicate ticks rest) r
unfolding to_come
to-come-start ticks rest r = zero-add _ ∙ ap (λ (n : ℕ). busy_by due_of (replicate n rest) r) (sub-zero ticks)

-- A step counts what it was, and the others are to come.
pub to-come-turn : (ticks i : ℕ) (rest : List ℕ) (r : Run) (s : Stepped) → i < ticks → StepSays due_of r rest s
    → to_come ticks i rest r ≡ busy s.answer + to_come ticks (i + 1) rest s.run
unfolding to_come busy_by
to-come-turn ticks i rest r s l says = go (ticks - i) refl
  where
    go : (n : ℕ) → ticks - i ≡ n → busy_by due_of (replicate n rest) r ≡ busy s.answer + busy_by due_of (replicate (ticks - (i + 1)) rest) s.run
    go zero e = absurd (omega arith)
    go (suc n) e = let left : ticks - (i + 1) ≡ n = omega arith in rw (left, says.answer) refl

pub to-come-end : (ticks i : ℕ) (rest : List ℕ) (r : Run) → ticks ≤ i → to_come ticks i rest r ≡ 0
unfolding to_come busy_by
to-come-end ticks i rest r l = let none : ticks - i ≡ 0 = omega arith in rw none refl
