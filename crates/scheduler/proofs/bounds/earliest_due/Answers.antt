use Rattle.scheduler.proofs.bounds.earliest_due.Goals as goal

pub returns-else-over : goal.returns-else-over
returns-else-over c = simp c.if-over.false
