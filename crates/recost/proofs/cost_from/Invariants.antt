use Rattle.std.proofs.Common.{◌≡◌, ◌+◌, ◌≤◌, drop, length}
use Rattle.recost.specs.Inside.Scan.{cost_from}
use Rattle.recost.proofs.cost_from.Given as goal

-- What is still to be looked through says what the whole does.
abbrev pub invariant-loop-i : goal.invariant-loop-i
invariant-loop-i l = (l.i ≤ length l.bytes) × (cost_from l.bytes l.row ≡ l.i + cost_from (drop l.i l.bytes) l.left)
