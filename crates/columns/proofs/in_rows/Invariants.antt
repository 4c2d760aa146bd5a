use mathlib.Core.Path.{◌≡◌}
use Prim.Native.Nat.{◌*◌}
use lib.ListN.{length, take}
use Rattle.columns.specs.Order.{first_rows}
use Rattle.columns.proofs.in_rows.Given as goal

-- So many rows stand in row order.
abbrev pub invariant-loop-row : goal.invariant-loop-row
invariant-loop-row g l = (length l.out ≡ g.row.N) × (take (l.row * l.w) l.out ≡ first_rows l.w l.n l.numbers l.row)
