use Rattle.std.proofs.Common.{refl}
use Rattle.guard_file.proofs.Whole.{many-page, guard-page, rows-page}
use Rattle.guard_file.proofs.lines.of_sheet.Goals as goal

pub returns-then-sheet-gt-GUARDS_MOST : goal.returns-then-sheet-gt-GUARDS_MOST
returns-then-sheet-gt-GUARDS_MOST c = many-page c.args.sheet _ _ _ c.if-sheet-gt-GUARDS_MOST.true c.refuse.ensures

pub returns-in-Some : goal.returns-in-Some
returns-in-Some c = guard-page c.args.sheet _ _ _ c.if-sheet-gt-GUARDS_MOST.false c.in-Some.first c.in-Some.is c.refuse-in-Some.ensures

pub returns-in-None : goal.returns-in-None
returns-in-None c = rows-page c.args.sheet _ _ _ c.if-sheet-gt-GUARDS_MOST.false c.in-None.is c.rows.ensures refl
