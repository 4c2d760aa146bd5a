use Rattle.std.proofs.Common.{ℕ, [], ◌∷◌, ap, ◌∙◌}
use Rattle.text.specs.Numbers.{fields_of}
use Rattle.text.specs.Text.{puts_of}
use Rattle.demand.specs.Numbered.{number_of}
use Rattle.priority_sheet.proofs.Printed.{refused-line-written}
use Rattle.priority_sheet.proofs.lines.refused_line.Goals as goal

pub returns : goal.returns
returns c =
    refused-line-written (number_of c.args.refusal) c.of.ensures
    (c.fields.ensures ∙ ap (λ (k : ℕ). puts_of c.of.result (fields_of (k ∷ 0 ∷ 0 ∷ []))) (c.from.ensures ∙ c.number.ensures)) c.puts.ensures
