-- The numbers of a charged table are determined.
use mathlib.Core.Path.{sym, ap, ◌∙◌}
use Rattle.charges.proofs.Once.{charge-unique}
use Rattle.charges.specs.Figures.{answer_numbers}
use Rattle.cowriedash.specs.Charged.{ChargesToldUnique}

pub charges-told-unique : ChargesToldUnique
charges-told-unique t h q a b p r =
    p.numbers ∙ ap answer_numbers (charge-unique t h q p.answer r.answer p.says r.says) ∙ sym r.numbers
