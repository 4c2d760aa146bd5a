use mathlib.Core.Path.{ap, ◌∙◌}
use Rattle.text.specs.Text.{puts_of}
use Rattle.charge_lines.proofs.Written.{part-written}
use Rattle.charge_lines.proofs.tails.part.Goals as goal

pub returns : goal.returns
returns c = part-written _ _ _ c.args.said c.args.load (c.puts.ensures ∙ ap (puts_of c.args.text) c.field.ensures) c.fields.ensures
