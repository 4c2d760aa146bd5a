use Rattle.harness.proofs.numbers.run_in.Goals as goal

pub returns : goal.returns
returns c = simp (c.late_of.ensures, c.over_of.ensures)
