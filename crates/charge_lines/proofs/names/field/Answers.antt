use mathlib.Core.Path.{sym, ◌∙◌}
use Rattle.charge_lines.proofs.Quoting.{bare-laid, quoted-room, quoted-laid}
use Rattle.charge_lines.proofs.names.field.Goals as goal

pub returns-then-not-some_special : goal.returns-then-not-some_special
returns-then-not-some_special c = bare-laid c.args.page.now c.args.name.now c.requires.0 c.requires.1 (sym c.some_special.ensures ∙ c.if-not-some_special.true) _ _ c.lay.ensures

pub doubled-b-requires : goal.doubled-b-requires
doubled-b-requires c = quoted-room c.args.page.now c.args.name.now c.requires.0 c.requires.1 _ _ c.lay-a.ensures

pub returns : goal.returns
returns c = quoted-laid c.args.page.now c.args.name.now c.requires.0 c.requires.1 _ _ c.lay-a.ensures _ _ c.doubled-b.ensures (sym c.some_special.ensures ∙ c.if-not-some_special.false) _ _ c.lay-2.ensures
