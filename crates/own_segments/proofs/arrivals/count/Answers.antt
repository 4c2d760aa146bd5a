use mathlib.Core.Path.{sym, ap₂, ◌∙◌}
use native.Mathlib.Omega.{arith}
use Prim.Native.Nat.{◌+◌}
use Rattle.own_segments.proofs.Rhythms.{rows-length, rows_few}
use Rattle.own_segments.proofs.arrivals.count.Goals as goal

pub overflow_add-result : goal.overflow_add-result
overflow_add-result c =
    omega (
      arith,
      c.count-2.ensures,
      c.count.ensures,
      rows-length c.args.tasks.now c.args.handlers.now,
      rows_few _ _
          c.requires,
    )

pub returns : goal.returns
returns c = ap₂ ◌+◌ c.count.ensures c.count-2.ensures ∙ sym (rows-length _ _)
