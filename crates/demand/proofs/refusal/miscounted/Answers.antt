use Rattle.demand.proofs.refusal.miscounted.Goals as goal

pub returns : goal.returns
returns c = rw (c.count-t.ensures, c.count-h.ensures)
