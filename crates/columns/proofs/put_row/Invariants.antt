use mathlib.Core.Path.{◌≡◌}
use Prim.Native.Nat.{◌+◌, ◌*◌}
use lib.ListN.{get_or, take}
use Rattle.columns.specs.Order.{tabled, by_column}
use Rattle.columns.proofs.put_row.Given as goal

-- The rows before it and so many numbers of this one stand in row order.
abbrev pub invariant-loop-column : goal.invariant-loop-column
invariant-loop-column l =
    take (l.row * l.w + l.column) l.out ≡ tabled (λ k. get_or l.numbers (by_column l.w l.n k) 0) (l.row * l.w + l.column)
