use mathlib.Core.Path.{ap, ◌∙◌}
use lib.ListN.{get_or}
use Prim.Native.Nat.{ℕ, ◌-◌}
use native.Mathlib.Omega.{arith}
use Rattle.demand.proofs.Inside.Slices.{width-least, head_read}
use Rattle.demand.proofs.table.head.Goals as goal

pub overflow_sub-last : goal.overflow_sub-last
overflow_sub-last c = omega (arith, c.width-last.ensures, width-least c.args.kind)

pub bounds-s-0 : goal.bounds-s-0
bounds-s-0 c = omega (arith, c.requires, width-least c.args.kind)

pub bounds-s-1 : goal.bounds-s-1
bounds-s-1 c = omega (arith, c.requires, width-least c.args.kind)

pub bounds-s-last : goal.bounds-s-last
bounds-s-last c =
    omega (arith, c.requires, c.width-last.ensures, width-least c.args.kind)

pub returns : goal.returns
returns c =
    head_read c.args.kind _ _ _ _ c.requires c.from.ensures c.from-2.ensures
    (c.from-3.ensures ∙ ap (λ (n : ℕ). get_or c.args.s.now (n - 1) 0) c.width-last.ensures)
