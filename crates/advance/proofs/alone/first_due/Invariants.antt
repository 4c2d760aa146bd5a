use mathlib.Core.Path.{◌≡◌}
use Rattle.advance.specs.Inside.Alone.{first_due}
use Rattle.advance.proofs.alone.first_due.Given as goal

abbrev pub invariant-loop-k : goal.invariant-loop-k
invariant-loop-k l = l.first ≡ first_due l.run.due l.run.owed l.k
