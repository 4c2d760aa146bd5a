use Rattle.trim_file.proofs.Printed.{none_written}
use Rattle.trim_file.proofs.lines.of_none.Goals as goal

pub returns : goal.returns
returns c = none_written c.args.row c.args.old c.lines.ensures
