use Rattle.std.proofs.Common.{◌≡◌, ◌≤◌, length}
use Rattle.charge_tables.proofs.list.next.Given as goal

abbrev pub invariant-loop-before : goal.invariant-loop-before
invariant-loop-before g l = (l.count ≤ length l.buf) × (length l.buf ≡ length l.initial.buf)
