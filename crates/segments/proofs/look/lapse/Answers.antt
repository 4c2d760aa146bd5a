use mathlib.Core.Path.{◌∙◌}
use Rattle.segments.proofs.Looks.Figures.{calls_is, lapse-light, lapse-heavy}
use Rattle.segments.proofs.look.lapse.Goals as goal

pub light_lapse-requires : goal.light_lapse-requires
light_lapse-requires c = (c.requires, c.if-row.true, calls_is _ _ _ c.requires.fair.period.least c.div_ceil-calls.ensures)

pub heavy_lapse-requires : goal.heavy_lapse-requires
heavy_lapse-requires c = (c.requires, c.if-row.false, calls_is _ _ _ c.requires.fair.period.least c.div_ceil-calls.ensures)

pub returns-then-row : goal.returns-then-row
returns-then-row c =
    c.light_lapse.ensures
    ∙ lapse-light _ _ _ _ _ c.requires.fair.period.least c.if-row.true

pub returns-else-row : goal.returns-else-row
returns-else-row c =
    c.heavy_lapse.ensures
    ∙ lapse-heavy _ _ _ _ _ c.requires.fair.period.least c.if-row.false
