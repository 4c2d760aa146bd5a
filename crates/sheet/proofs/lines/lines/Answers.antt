use Rattle.sheet.proofs.Printed.{chained}
use Rattle.sheet.proofs.lines.lines.Goals as goal

pub returns : goal.returns
returns c = chained _ _ c.of-head.ensures c.puts-named.ensures c.fields.ensures c.puts.ensures
