use Rattle.std.proofs.Common.{◌≡◌, take}
use Rattle.text.specs.Text.{puts_of}
use Rattle.text.proofs.puts.Given as goal

abbrev pub invariant-loop-b : goal.invariant-loop-b
invariant-loop-b l = l.out ≡ puts_of l.initial.out (take l.b-index l.s)
