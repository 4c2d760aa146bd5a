use native.Mathlib.Omega.{arith}
use Rattle.guards.proofs.Answers.{rows-fair, inside-rows, outside-rows}
use Rattle.guards.proofs.ranged.Goals as goal

pub returns-then-row_outside : goal.returns-then-row_outside
returns-then-row_outside c = outside-rows _ _ _ (rw (c.row_outside.ensures, c.row_outside-2.ensures) at c.if-row_outside.true)

pub overflow_cast-result : goal.overflow_cast-result
overflow_cast-result c =
    let x = c.args in
    let inside = rw (c.row_outside.ensures, c.row_outside-2.ensures) at c.if-row_outside.false in
    let fair = rows-fair x.interrupt x.timer x.period inside in
    omega (arith, fair.0.cost.most)

pub overflow_cast-result-2 : goal.overflow_cast-result-2
overflow_cast-result-2 c =
    let x = c.args in
    let inside = rw (c.row_outside.ensures, c.row_outside-2.ensures) at c.if-row_outside.false in
    let fair = rows-fair x.interrupt x.timer x.period inside in
    omega (arith, fair.1.cost.most)

pub overflow_cast-result-3 : goal.overflow_cast-result-3
overflow_cast-result-3 c =
    let x = c.args in
    let inside = rw (c.row_outside.ensures, c.row_outside-2.ensures) at c.if-row_outside.false in
    let fair = rows-fair x.interrupt x.timer x.period inside in
    omega (arith, fair.0.period.most)

pub returns : goal.returns
returns c = inside-rows _ _ _ (rw (c.row_outside.ensures, c.row_outside-2.ensures) at c.if-row_outside.false)
