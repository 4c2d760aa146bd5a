use Rattle.charge_lines.proofs.Charged.{answers-figures}
use Rattle.charge_lines.proofs.files.of_file.Goals as goal

pub returns : goal.returns
returns c = answers-figures _ _ _ _ c.answer.ensures c.of_answer.ensures
