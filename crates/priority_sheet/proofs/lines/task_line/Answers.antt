use Rattle.std.proofs.Common.{ap, ◌∙◌, []}
use Rattle.text.specs.Text.{puts_of}
use Rattle.priority_sheet.proofs.Printed.{task-line-written}
use Rattle.priority_sheet.proofs.lines.task_line.Goals as goal

pub returns : goal.returns
returns c = task-line-written c.args.i c.args.l (c.of.ensures ∙ ap (puts_of []) c.word.ensures) c.fields.ensures c.puts.ensures
