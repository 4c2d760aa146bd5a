use Rattle.std.proofs.Common.{◌≡◌, drop}
use Rattle.text.specs.Spelled.{digits_said}
use Rattle.text.proofs.spelled.number.Given as goal

abbrev pub invariant-loop-b : goal.invariant-loop-b
invariant-loop-b l = digits_said l.limit l.v (drop l.b-index l.rest) ≡ digits_said l.limit l.initial.v l.rest
