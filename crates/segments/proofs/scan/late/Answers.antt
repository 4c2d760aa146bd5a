use Rattle.segments.proofs.scan.late.Goals as goal

pub returns-then-runs : goal.returns-then-runs
returns-then-runs c = rw c.if-runs.true c.run.ensures

pub returns-else-runs : goal.returns-else-runs
returns-else-runs c = rw c.if-runs.false c.rest.ensures
