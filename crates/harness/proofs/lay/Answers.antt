use Rattle.harness.proofs.lay.Goals as goal

pub run_figures-requires : goal.run_figures-requires
run_figures-requires c = c.requires.0 _ c.in-Ok.is
