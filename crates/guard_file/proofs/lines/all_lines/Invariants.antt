use Rattle.guard_file.proofs.Laid.{Behind}
use Rattle.guard_file.proofs.lines.all_lines.Given as goal

abbrev pub invariant-loop-k : goal.invariant-loop-k
invariant-loop-k l = Behind l.initial.page l.at l.numbers l.k l.end l.page
