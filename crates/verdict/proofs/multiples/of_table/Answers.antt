use native.Mathlib.Omega.{arith}
use Rattle.demand.proofs.Refusals.{refusal-in-range}
use Rattle.verdict.proofs.Divisors.{common-over, tasks-multiple, common-read}
use Rattle.verdict.proofs.multiples.of_table.Goals as goal

pub of_rows-requires : goal.of_rows-requires
of_rows-requires c = ((refusal-in-range _ _ c.requires).tasks, omega arith, omega arith)

pub returns-in_err-a : goal.returns-in_err-a
returns-in_err-a c = rw c.from_residual.ensures (common-over _ _ c.requires c.in_err-a.ensures)

pub of_rows-requires-2 : goal.of_rows-requires-2
of_rows-requires-2 c =
    let multiple = tasks-multiple _ _ c.requires _ c.in_ok-a.ensures in
    ((refusal-in-range _ _ c.requires).handlers, multiple.0, multiple.1)

pub returns : goal.returns
returns c = common-read _ _ c.requires _ c.in_ok-a.ensures _ c.of_rows-2.ensures
