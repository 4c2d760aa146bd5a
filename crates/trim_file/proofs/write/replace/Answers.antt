use Rattle.std.proofs.Common.{List, ℕ, drop, ap, ◌∙◌}
use Rattle.demand.proofs.Inside.Slices.{from_is}
use Rattle.text.specs.Numbers.{decimal}
use Rattle.trim_file.specs.Inside.{added}
use Rattle.trim_file.specs.declared.write.Sheet.{Sheet}
use Rattle.trim_file.proofs.Written.{number-text}
use Rattle.trim_file.proofs.write.replace.Goals as goal

pub returns : goal.returns
returns c =
    let digits = c.as_bytes.ensures ∙ number-text c.args.new _ _ _ c.from.ensures c.blank.ensures c.number-number.ensures in
    c.add.ensures
    ∙ ap (λ (bs : List ℕ). added c.add-digits.result bs) (from_is c.args.behind c.args.input.now)
    ∙ ap (λ (s : Sheet). added s (drop c.args.behind c.args.input.now))
    (c.add-digits.ensures ∙ ap (λ (bs : List ℕ). added c.add-front.result bs) digits ∙ ap (λ (s : Sheet). added s (decimal c.args.new)) c.add-front.ensures)
