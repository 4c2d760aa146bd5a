use mathlib.Core.Path.{sym}
use native.Mathlib.Omega.{arith}
use Rattle.demand.specs.Inside.Sizes.{Small}
use Rattle.demand.specs.Rows.{rows_of}
use Rattle.demand.proofs.Inside.Sizes.{called-most}
use Rattle.demand.proofs.Inside.Slices.{part-shorter}
use Rattle.priority.proofs.Inside.Ranks.{work-short, work-head, work-le-called, fewer_head, fewer-part}
use Rattle.priority.proofs.ranks.+work.Goals as goal

pub returns-then-s-own : goal.returns-then-s-own
returns-then-s-own t c =
    sym (work-short c.args.kind c.args.s.now c.args.end c.args.j c.args.l (omega (arith, c.if-s-own.true, c.width-own.ensures)))

pub head-row-requires : goal.head-row-requires
head-row-requires t c = omega (arith, c.width-own.ensures)

pub overflow_add-j : goal.overflow_add-j
overflow_add-j t c =
    omega (arith, (fewer_head c.args.kind c.args.s.now _ c.head-row.ensures _ c.width-own.ensures _ c.requires.0).1)

pub work-rest-requires : goal.work-rest-requires
work-rest-requires t c =
    let kind = c.args.kind in
    let s = c.args.s.now in
    (omega (arith, part-shorter kind s _ c.width-own.ensures (omega arith)), (fewer-part kind s _ c.head-row.ensures _ c.width-own.ensures _ c.requires.0, c.requires.1))

pub work_by-requires : goal.work_by-requires
work_by-requires t c =
    let head = fewer_head c.args.kind c.args.s.now _ c.head-row.ensures _ c.width-own.ensures _ c.requires.0 in
    (head.1, head.0, c.requires.1)

pub overflow_add-result : goal.overflow_add-result
overflow_add-result t c =
    let kind = c.args.kind in
    let s = c.args.s.now in
    let small : Small (rows_of kind s) c.args.l = record { rows = c.requires.0.rows; count = omega (arith, c.requires.0.count); ticks = c.requires.1 } in
    omega (
      arith,
      c.work_by.ensures,
      work-head kind s _ c.head-row.ensures _ c.width-own.ensures c.args.end c.args.j c.args.l _ c.work-rest.ensures,
      work-le-called c.args.end c.args.j (rows_of kind s) c.args.l,
      called-most (rows_of kind s) c.args.l small,
    )

pub returns : goal.returns
returns t c =
    rw c.work_by.ensures (work-head c.args.kind c.args.s.now _ c.head-row.ensures _ c.width-own.ensures c.args.end c.args.j c.args.l _ c.work-rest.ensures)
