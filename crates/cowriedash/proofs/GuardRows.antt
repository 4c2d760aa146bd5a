-- The numbers of a guard's rows are the figures of its answer, and determined.
use mathlib.Core.Path.{refl, sym, ap, ◌∙◌}
use Rattle.std.specs.Prelude.{Ok, Err}
use Rattle.guards.proofs.Answers.{rows-unique}
use Rattle.guards.specs.Answers.{figures}
use Rattle.cowriedash.specs.GuardRows.{guard_of, row_numbers, RowsFigured, RowsRefused, GuardToldUnique}

pub rows-figured : RowsFigured
unfolding figures
rows-figured (Ok pair) = refl
rows-figured (Err e) = refl

pub rows-refused : RowsRefused
rows-refused k = refl

pub guard-told-unique : GuardToldUnique
guard-told-unique b ns x y p q =
    p.numbers ∙ ap row_numbers (rows-unique (guard_of b ns) p.answer q.answer p.says q.says) ∙ sym q.numbers
