use lib.Seq.{length-take-le}
use mathlib.Core.Path.{sym}
use native.Mathlib.Omega.{arith}
use mathlib.Core.List.{[], ◌∷◌}
use Prim.Native.Nat.{◌+◌}
use Rattle.charge_lines.proofs.Quoting.{quotes-most, put-laid}
use Rattle.charge_lines.proofs.names.put.Goals as goal

pub overflow_add-n : goal.overflow_add-n
overflow_add-n c = omega (arith, c.quotes-n.ensures, quotes-most c.args.b)

pub slice_bounds-pair-end : goal.slice_bounds-pair-end
slice_bounds-pair-end c = omega (arith, c.quotes-n.ensures, quotes-most c.args.b)

pub slice_bounds-lay-end : goal.slice_bounds-lay-end
slice_bounds-lay-end c = sym (length-take-le (1 + c.quotes-n.result) (c.args.b ∷ 34 ∷ []) (omega (arith, c.quotes-n.ensures, quotes-most c.args.b)))

pub returns : goal.returns
returns c = put-laid c.args.page.now c.args.at c.args.b c.requires _ c.quotes-n.ensures _ _ c.lay.ensures
