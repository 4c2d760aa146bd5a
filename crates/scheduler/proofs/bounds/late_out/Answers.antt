use Rattle.scheduler.proofs.Steps.Scan.{or-false}
use Rattle.scheduler.proofs.bounds.late_out.Goals as goal

pub returns-then-run : goal.returns-then-run
returns-then-run c = simp (c.if-run.true, c.names.ensures, c.late_row.ensures) (or-false _)
