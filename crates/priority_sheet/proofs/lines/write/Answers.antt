use Rattle.std.proofs.Common.{arith, ◌∙◌}
use Rattle.priority_sheet.proofs.Laid.{header-ends, page-long, found-laid, refused-laid}
use Rattle.priority_sheet.proofs.lines.write.Goals as goal

pub task_lines-requires : goal.task_lines-requires
task_lines-requires c =
    let start = c.args.page.now in (
      omega (arith, header-ends start _ _ c.told-page c.lay-at.ensures, page-long start _ _ c.told-page c.lay-at.ensures),
      c.requires c.in-Ok.responses c.in-Ok.is,
    )

pub returns-in-Ok : goal.returns-in-Ok
returns-in-Ok c =
    found-laid _ _ _ c.told-page c.lay-at.ensures c.args.sheet c.in-Ok.responses c.in-Ok.is (c.requires c.in-Ok.responses c.in-Ok.is) _ _ c.task_lines.ensures

pub returns-in-Err : goal.returns-in-Err
returns-in-Err c =
    refused-laid _ _ _ c.told-page c.lay-at.ensures c.args.sheet _ c.in-Err.is _ (c.as_bytes.ensures ∙ c.refused_line.ensures) _ _ c.lay.ensures
