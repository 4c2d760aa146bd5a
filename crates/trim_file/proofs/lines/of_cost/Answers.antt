use Rattle.trim_file.proofs.Printed.{cost-written}
use Rattle.trim_file.proofs.lines.of_cost.Goals as goal

pub returns : goal.returns
returns c = cost-written c.args.row c.args.code c.args.old c.args.new c.lines.ensures
