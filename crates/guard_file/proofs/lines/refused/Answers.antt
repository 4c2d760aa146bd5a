use Rattle.std.proofs.Common.{ℕ, [], ◌∷◌, ap, ◌∙◌}
use Rattle.demand.specs.Numbered.{number_of}
use Rattle.text.specs.Numbers.{fields_of}
use Rattle.text.specs.Text.{puts_of}
use Rattle.guard_file.proofs.Printed.{refused-written}
use Rattle.guard_file.proofs.lines.refused.Goals as goal

pub returns : goal.returns
returns c =
    refused-written (number_of c.args.refusal) c.args.place c.of.ensures
    (c.fields.ensures ∙ ap (λ (k : ℕ). puts_of c.of.result (fields_of (k ∷ c.args.place ∷ []))) (c.from.ensures ∙ c.number.ensures)) c.puts.ensures
