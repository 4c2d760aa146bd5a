use mathlib.Core.Path.{refl, ◌∙◌}
use Rattle.charge_lines.proofs.Quoting.{name-count, line-laid}
use Rattle.charge_lines.proofs.of_table.Goals as goal

pub slice_bounds-field-end-2 : goal.slice_bounds-field-end-2
slice_bounds-field-end-2 c = (name-count _ c.args.name.now c.count-n.ensures).0

pub field-at-requires : goal.field-at-requires
field-at-requires c = ((name-count _ c.args.name.now c.count-n.ensures).1, refl)

pub returns : goal.returns
returns c =
    line-laid c.args.name.now c.args.figures _ _ _ _ _ _ c.count-n.ensures c.field-at.ensures
    (c.as_bytes.ensures ∙ c.of_figures-tail.ensures) c.lay-len.ensures
