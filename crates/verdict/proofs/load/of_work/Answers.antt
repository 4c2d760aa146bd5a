use mathlib.Core.Path.{sym, ◌∙◌}
use native.Mathlib.Nat.{div-le_of_le-mul, div-le_self, mod-lt, mul_comm}
use native.Mathlib.Omega.{arith}
use Prim.Native.Nat.{ℕ, ◌+◌, ◌-◌, ◌*◌, ◌/◌, ◌%◌, ◌≤◌}
use Rattle.demand.proofs.Divide.{div_ceil-ceil}
use Rattle.verdict.proofs.Loads.{millionths-split}
use Rattle.verdict.proofs.load.of_work.Goals as goal

-- W is at most 128,000,000 a tick.
quotient : (w h : ℕ) → w ≤ 128000000 * h → w / h ≤ 128000000
quotient w h most = div-le_of_le-mul h (omega (arith, mul_comm h 128000000))

pub overflow_mul-result : goal.overflow_mul-result
overflow_mul-result c = omega (arith, quotient c.args.w c.args.h c.requires.0)

pub overflow_mul-r : goal.overflow_mul-r
overflow_mul-r c = omega (arith, mod-lt c.args.w c.requires.1)

pub overflow_add-result : goal.overflow_add-result
overflow_add-result c =
    let rest = 1000000 * (c.args.w % c.args.h) in
    let up = c.div_ceil.ensures ∙ div_ceil-ceil rest c.args.h c.requires.1 in
    omega (arith, up, quotient c.args.w c.args.h c.requires.0, mod-lt c.args.w c.requires.1, div-le_self (rest + (c.args.h - 1)) c.args.h)

pub returns : goal.returns
returns c = rw (c.div_ceil.ensures ∙ div_ceil-ceil _ _ c.requires.1) (sym (millionths-split _ _ c.requires.1))
