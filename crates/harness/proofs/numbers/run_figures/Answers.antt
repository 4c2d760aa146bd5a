use Rattle.harness.proofs.numbers.run_figures.Goals as goal

pub returns : goal.returns
returns c =
    simp (
      c.late_number-2.ensures,
      c.row_number.ensures,
      c.ran_number.ensures,
      c.late_number.ensures,
      c.over_number.ensures,
    )
