use Rattle.layout.proofs.steps.step.Goals as goal

pub returns-in-HeadCr : goal.returns-in-HeadCr
returns-in-HeadCr c = rw c.in-HeadCr.is (c.at_end.ensures c.args.columns)

pub returns-in-Start : goal.returns-in-Start
returns-in-Start c = rw c.in-Start.is (c.at_start.ensures c.args.columns)

pub returns-in-Name : goal.returns-in-Name
returns-in-Name c = rw c.in-Name.is (c.in_name.ensures c.args.columns)

pub returns-in-First : goal.returns-in-First
returns-in-First c = rw c.in-First.is (c.in_first.ensures c.args.columns)

pub returns-in-RowCr : goal.returns-in-RowCr
returns-in-RowCr c = rw c.in-RowCr.is (c.at_end-in-RowCr.ensures c.args.columns)
