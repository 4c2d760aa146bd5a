-- The numbers of a trimmed table are determined.
use mathlib.Core.Path.{sym, ap, ◌∙◌}
use Rattle.trim.proofs.Answers.{trim-unique}
use Rattle.trim.specs.Promise.{answer_numbers}
use Rattle.cowriedash.specs.Trimmed.{TrimToldUnique}

pub trim-told-unique : TrimToldUnique
trim-told-unique t h i a b p q =
    p.numbers ∙ ap answer_numbers (trim-unique t h i p.answer q.answer p.says q.says) ∙ sym q.numbers
