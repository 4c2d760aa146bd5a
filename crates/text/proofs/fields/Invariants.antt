use Rattle.std.proofs.Common.{◌≡◌, take}
use Rattle.text.specs.Numbers.{fields_of}
use Rattle.text.specs.Text.{puts_of}
use Rattle.text.proofs.fields.Given as goal

abbrev pub invariant-loop-n : goal.invariant-loop-n
invariant-loop-n l = l.out ≡ puts_of l.initial.out (fields_of (take l.n-index l.figures))
