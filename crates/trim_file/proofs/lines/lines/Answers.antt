use Rattle.trim_file.specs.Printed.{heading}
use Rattle.trim_file.proofs.Printed.{four}
use Rattle.trim_file.proofs.lines.lines.Goals as goal

pub returns : goal.returns
returns c = four heading _ _ _ c.of.ensures c.number-task.ensures c.fields.ensures c.puts.ensures
