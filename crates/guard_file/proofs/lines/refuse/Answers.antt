use Rattle.std.proofs.Common.{arith, refl, ◌∙◌}
use Rattle.demand.specs.Numbered.{number_of}
use Rattle.guard_file.proofs.Laid.{only-laid}
use Rattle.guard_file.proofs.Printed.{refused-most}
use Rattle.guard_file.proofs.lines.refuse.Goals as goal

pub returns : goal.returns
returns c =
    let few = refused-most (number_of c.args.refusal) c.args.place in
    let told = only-laid c.args.page.now _ _ _ _ c.told-page (omega (arith, few)) (c.as_bytes.ensures ∙ c.refused.ensures) c.lay.ensures in
    (told.0, told.1, refl)
