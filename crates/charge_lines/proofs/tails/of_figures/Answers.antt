use mathlib.Core.List.{[]}
use mathlib.Core.Path.{ap, ◌∙◌}
use Rattle.charge_lines.proofs.Written.{tail_written}
use Rattle.text.specs.Text.{puts_of}
use Rattle.charge_lines.proofs.tails.of_figures.Goals as goal

pub returns : goal.returns
returns c =
    tail_written c.args.figures (c.of-exact.ensures ∙ ap (puts_of []) c.field.ensures)
    c.fields-a.ensures c.part-b.ensures c.part-c.ensures c.puts.ensures
