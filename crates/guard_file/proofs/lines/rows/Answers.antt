use Rattle.std.proofs.Common.{arith}
use Rattle.guard_file.proofs.Laid.{heading-ends, page-long, rows-laid}
use Rattle.guard_file.proofs.Printed.{lines-most}
use Rattle.guard_file.proofs.lines.rows.Goals as goal

pub all_lines-requires : goal.all_lines-requires
all_lines-requires c = (
  omega (arith, heading-ends _ _ _ c.told-page c.lay-at.ensures, page-long _ _ _ c.told-page c.lay-at.ensures),
  c.requires,
)

pub returns : goal.returns
returns c =
    rows-laid _ _ _ c.told-page c.lay-at.ensures _ _ _ (omega (arith, lines-most c.args.numbers.now c.args.n, c.requires)) c.all_lines.ensures
