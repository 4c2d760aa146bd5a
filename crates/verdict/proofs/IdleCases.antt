-- Worked idle points (02, M-105): long before H, and with a handler, whose work counts.
use mathlib.Core.List.{List, [], ◌∷◌}
use mathlib.Core.Path.{◌≡◌, refl}
use native.Mathlib.Omega.{arith}
use Prim.Native.Nat.{ℕ, zero, suc, ◌≤◌, ◌<◌}
use Rattle.euclid.specs.Euclid.{euclid, gcd, lcm}
use Rattle.demand.specs.Demands.{called}
use Rattle.demand.specs.Multiples.{lcm_from}
use Rattle.demand.specs.Rows.{Row, tasks_of, handlers_of, total}
use Rattle.verdict.specs.Cases.{plain}
use Rattle.verdict.specs.Idle.{asks, Idle}
use Rattle.verdict.specs.Multiples.{common}

-- Tasks 1/999 and 1/1,000: all has drained at 2, where H is 999,000.
abbrev two : List Row
two = tasks_of (plain (1 ∷ 999 ∷ 1 ∷ 1000 ∷ []))

pub early : Idle two [] 2
unfolding asks called total tasks_of plain
early = record { positive = omega arith; room = omega arith; least = least }
  where
    least : (l : ℕ) → 1 ≤ l → l < 2 → l < asks two [] l
    least zero from h = absurd (omega arith)
    least (suc zero) from h = omega arith
    least (suc (suc l)) from h = absurd (omega arith)

pub far : common two [] ≡ 999000
unfolding common lcm_from lcm gcd euclid tasks_of plain
far = refl

-- Case 3, task 1/4 and handler 2/3: 3, where the task alone would drain at 1.
pub with-handler : Idle (tasks_of (plain (1 ∷ 4 ∷ []))) (handlers_of (2 ∷ 3 ∷ [])) 3
unfolding asks called total tasks_of handlers_of plain
with-handler = record { positive = omega arith; room = omega arith; least = least }
  where
    least : (l : ℕ) → 1 ≤ l → l < 3 → l < asks (tasks_of (plain (1 ∷ 4 ∷ []))) (handlers_of (2 ∷ 3 ∷ [])) l
    least zero from h = absurd (omega arith)
    least (suc zero) from h = omega arith
    least (suc (suc zero)) from h = omega arith
    least (suc (suc (suc l))) from h = absurd (omega arith)
