use mathlib.Core.Path.{sym, ◌∙◌}
use native.Mathlib.Omega.{arith}
use Rattle.demand.specs.declared.table.Kind.TheVariants.{Task}
use Rattle.demand.proofs.Inside.Slices.{part-shorter}
use Rattle.priority.proofs.Inside.Ranks.{next-short, next-head, fewer_head, fewer-part}
use Rattle.priority.proofs.ranks.+next.Goals as goal

pub returns-then-tasks-own : goal.returns-then-tasks-own
returns-then-tasks-own t c =
    sym (next-short Task c.args.tasks.now c.args.from c.args.j (omega (arith, c.if-tasks-own.true, c.width-own.ensures)))

pub head-row-requires : goal.head-row-requires
head-row-requires t c = omega (arith, c.width-own.ensures)

pub overflow_add-j : goal.overflow_add-j
overflow_add-j t c =
    omega (arith, (fewer_head Task c.args.tasks.now _ c.head-row.ensures _ c.width-own.ensures _ c.requires).1)

pub next-rest-requires : goal.next-rest-requires
next-rest-requires t c =
    let t = c.args.tasks.now in
    (omega (arith, part-shorter Task t _ c.width-own.ensures (omega arith)), fewer-part Task t _ c.head-row.ensures _ c.width-own.ensures _ c.requires)

pub rank-requires : goal.rank-requires
rank-requires t c =
    let head = fewer_head Task c.args.tasks.now _ c.head-row.ensures _ c.width-own.ensures _ c.requires in
    (head.1, head.0)

pub returns : goal.returns
returns t c =
    c.lesser_from.ensures ∙ rw c.rank.ensures (next-head Task c.args.tasks.now _ c.head-row.ensures _ c.width-own.ensures c.args.from c.args.j _ c.next-rest.ensures)
