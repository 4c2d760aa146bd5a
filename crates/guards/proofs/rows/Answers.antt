use mathlib.Core.Path.{refl}
use native.Mathlib.Omega.{arith}
use Rattle.guards.proofs.Answers.{burst-small, burst-says, rows-say-read}
use Rattle.guards.proofs.rows.Goals as goal

pub returns-then-n : goal.returns-then-n
returns-then-n c = rw c.in-Bursty.is (burst-says _ (rw c.from-n.ensures at c.if-n.true))

pub overflow_mul-n : goal.overflow_mul-n
overflow_mul-n c =
    let each = c.three-in-Bursty in
    omega (arith, burst-small c.from-n.result each.result c.if-n.false each.ensures.1)

pub overflow_add-n : goal.overflow_add-n
overflow_add-n c =
    let each = c.three-in-Bursty in
    omega (arith, burst-small c.from-n.result each.result c.if-n.false each.ensures.1)

pub returns-in-Strict : goal.returns-in-Strict
returns-in-Strict c =
    rw c.in-Strict.is
    (rows-say-read _ _ _ _ refl
    (rw (c.three.ensures.0, c.from.ensures) refl)
    (rw (c.from-in-Strict.ensures, c.from-in-Strict-2.ensures) refl)
    c.from-in-Strict-3.ensures
    c.ranged.ensures)

pub returns-else-n : goal.returns-else-n
returns-else-n c =
    let n = c.from-n.ensures in
    rw c.in-Bursty.is
    (rows-say-read _ _ _ _
    (rw n at c.if-n.false)
    (rw (n, c.three-in-Bursty.ensures.0, c.from-in-Bursty.ensures) refl)
    c.three-in-Bursty-2.ensures.0
    c.from-in-Bursty-2.ensures
    c.ranged-in-Bursty.ensures)
