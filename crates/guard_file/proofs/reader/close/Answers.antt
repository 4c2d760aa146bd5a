use Rattle.guard_file.proofs.Inside.Builds.{at-end-short, at-end-full, at-end-broken}
use mathlib.Core.Path.{sym, ap, refl, ◌∙◌}
use Rattle.std.specs.Prelude.{Ok}
use Rattle.guard_file.proofs.reader.close.Goals as goal

pub returns-then-is_start : goal.returns-then-is_start
returns-then-is_start c =
    at-end-short c.args.sheet
    c.args.st
    c.args.row.values _ _ _ _
    c.step-cr.ensures c.step-lf.ensures
    (sym c.is_start.ensures ∙ c.if-is_start.true) c.note.ensures (ap Ok c.feed.ensures)

pub returns-then-is_start-2 : goal.returns-then-is_start-2
returns-then-is_start-2 c =
    at-end-full c.args.sheet
    c.args.st c.args.row.values _ _
    c.step-cr.ensures c.step-lf.ensures
    (sym c.is_start.ensures ∙ c.if-is_start.false)
    (sym c.is_start-else-is_start.ensures ∙ c.if-is_start-2.true)

pub returns-else-is_start-2 : goal.returns-else-is_start-2
returns-else-is_start-2 c =
    at-end-broken c.args.sheet
    c.args.st
    c.args.row.values _ _ _
    c.step-cr.ensures c.step-lf.ensures
    (sym c.is_start.ensures ∙ c.if-is_start.false)
    (sym c.is_start-else-is_start.ensures ∙ c.if-is_start-2.false) refl
