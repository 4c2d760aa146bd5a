use Rattle.std.proofs.Common.{arith, ap, length, ◌∙◌}
use Rattle.trim_file.specs.Inside.{output_by}
use Rattle.trim_file.proofs.Printed.{cost-most, none-most}
use Rattle.trim_file.proofs.Written.{none-is, refused-is, cut-replaces, cut-output}
use Rattle.trim_file.proofs.page_of.Goals as goal

pub with_file-requires : goal.with_file-requires
with_file-requires c = cut-replaces _ _ _ _ c.in-Ok.is _ c.in-Some.is c.requires

pub returns-in-Some : goal.returns-in-Some
returns-in-Some c = cut-output _ _ _ _ c.in-Ok.is _ _ c.in-Some.is c.with_file.ensures

pub lines_alone-requires : goal.lines_alone-requires
lines_alone-requires c = omega (arith, ap length c.of_none.ensures, none-most c.args.row c.from.result)

pub returns-in-None : goal.returns-in-None
returns-in-None c =
    cut-output _ _ _ _ c.in-Ok.is _ _ c.in-None.is (none-is _ _ _ _ _ c.from.ensures c.of_none.ensures c.lines_alone.ensures)

pub lines_alone-requires-in-Err : goal.lines_alone-requires-in-Err
lines_alone-requires-in-Err c = omega (arith, ap length c.of_cost.ensures, cost-most 0 c.from-in-Err.result 0 0)

pub returns-in-Err : goal.returns-in-Err
unfolding output_by
returns-in-Err c = rw c.in-Err.is (refused-is _ _ _ _ (c.from-in-Err.ensures ∙ c.number.ensures) c.of_cost.ensures c.lines_alone-in-Err.ensures)
