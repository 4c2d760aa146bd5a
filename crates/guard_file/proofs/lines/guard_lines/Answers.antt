use Rattle.guard_file.proofs.Printed.{guard-written}
use Rattle.guard_file.proofs.lines.guard_lines.Goals as goal

pub returns : goal.returns
returns c =
    guard-written c.args.interrupt c.args.timer c.args.period
    c.of.ensures c.fields.ensures c.puts-both.ensures c.fields-2.ensures c.puts.ensures
