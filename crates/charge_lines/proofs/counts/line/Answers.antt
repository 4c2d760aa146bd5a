use mathlib.Core.List.{[]}
use mathlib.Core.Path.{ap, ◌∙◌}
use Rattle.text.specs.Text.{puts_of}
use Rattle.charge_lines.proofs.Written.{count-written}
use Rattle.charge_lines.proofs.counts.line.Goals as goal

pub returns : goal.returns
returns c = count-written c.args.way c.args.counts (c.of.ensures ∙ ap (puts_of []) c.name.ensures) c.fields.ensures c.puts.ensures
