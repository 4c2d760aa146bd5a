use Rattle.priority_sheet.proofs.Laid.{Behind}
use Rattle.priority_sheet.proofs.lines.task_lines.Given as goal

abbrev pub invariant-loop-k : goal.invariant-loop-k
invariant-loop-k l = Behind l.initial.page l.at l.responses.least l.k l.end l.page
