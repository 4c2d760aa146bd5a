use Rattle.own_sheet.proofs.Lines.{line-written, first-written}
use Rattle.own_sheet.proofs.line.Goals as goal

pub returns : goal.returns
returns c = line-written c.args.kind c.args.row c.args.from c.args.to (first-written c.args.kind c.letter.result c.blank.result c.put-first.result c.letter.ensures c.blank.ensures c.put-first.ensures) c.number.ensures c.fields.ensures c.puts.ensures
