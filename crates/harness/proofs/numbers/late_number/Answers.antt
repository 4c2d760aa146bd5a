use mathlib.Core.Path.{sym, ap, subst}
use native.Mathlib.Omega.{arith}
use Prim.Native.Nat.{ℕ, ◌≤◌}
use Rattle.demand.specs.Limits.{tasks_most}
use Rattle.std.specs.Prelude.{Option}
use Rattle.harness.specs.Numbers.{late_number}
use Rattle.harness.proofs.numbers.late_number.Goals as goal

pub overflow_add-result : goal.overflow_add-result
overflow_add-result c = omega (arith, subst (λ (x : Option ℕ). late_number x ≤ tasks_most) c.in-Some.is c.requires)

pub returns-in-Some : goal.returns-in-Some
returns-in-Some c = sym (ap late_number c.in-Some.is)
