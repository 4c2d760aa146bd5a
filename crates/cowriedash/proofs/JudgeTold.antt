-- The numbers of a judged schedule are determined.
use mathlib.Core.Path.{sym, ap, ◌∙◌}
use Rattle.segments.proofs.Answers.{judge-unique}
use Rattle.segments.specs.Promise.{answer_numbers}
use Rattle.cowriedash.specs.Judged.{JudgeToldUnique}

pub judge-told-unique : JudgeToldUnique
judge-told-unique t h s n a b p q =
    p.numbers ∙ ap answer_numbers (judge-unique t h s n p.answer q.answer p.says q.says) ∙ sym q.numbers
