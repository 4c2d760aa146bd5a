use mathlib.Core.Path.{sym}
use native.Mathlib.Omega.{arith}
use Rattle.demand.specs.Refusals.{row_outside}
use Rattle.demand.proofs.Inside.Slices.{part-shorter, some-short, some-head}
use Rattle.demand.proofs.refusal.+some_outside.Goals as goal

pub width-own-requires : goal.width-own-requires
width-own-requires t c = tt

pub returns-then-s-own : goal.returns-then-s-own
returns-then-s-own t c = sym (some-short c.args.kind c.args.s.now (omega (arith, c.if-s-own.true, c.width-own.ensures)) row_outside)

pub head-row-requires : goal.head-row-requires
head-row-requires t c = omega (arith, c.width-own.ensures)

pub some_outside-rest-requires : goal.some_outside-rest-requires
some_outside-rest-requires t c =
    (omega (arith, part-shorter c.args.kind c.args.s.now _ c.width-own.ensures (omega arith)), tt)

pub outside-requires : goal.outside-requires
outside-requires t c = tt

pub outside-requires-2 : goal.outside-requires-2
outside-requires-2 t c = tt

pub returns : goal.returns
returns t c =
    rw (c.outside.ensures, c.outside-2.ensures)
    (some-head c.args.kind c.args.s.now _ c.head-row.ensures _ c.width-own.ensures row_outside _ c.some_outside-rest.ensures)
