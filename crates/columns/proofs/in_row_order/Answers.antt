use mathlib.Core.Path.{sym}
use native.Mathlib.Omega.{arith}
use Rattle.demand.proofs.Refusals.{neither}
use Rattle.demand.specs.declared.table.Kind.TheVariants.{Task, Handler}
use Rattle.columns.specs.Held.{unheld}
use Rattle.columns.proofs.Held.{held_none, held_both}
use Rattle.columns.proofs.in_row_order.Goals as goal

pub returns-then-unheld : goal.returns-then-unheld
returns-then-unheld c =
    sym (held_none c.args.tasks.now c.args.handlers.now (rw (c.unheld.ensures, c.unheld-2.ensures) at c.if-unheld.true))

pub in_rows-requires : goal.in_rows-requires
in_rows-requires c =
    let none = rw (c.unheld.ensures, c.unheld-2.ensures) at c.if-unheld.false in
    (omega arith, ((neither (unheld Task c.args.tasks.now) (unheld Handler c.args.handlers.now) none).0, omega arith))

pub in_rows-requires-2 : goal.in_rows-requires-2
in_rows-requires-2 c =
    let none = rw (c.unheld.ensures, c.unheld-2.ensures) at c.if-unheld.false in
    (omega arith, ((neither (unheld Task c.args.tasks.now) (unheld Handler c.args.handlers.now) none).1, omega arith))

pub returns : goal.returns
returns c =
    let none = rw (c.unheld.ensures, c.unheld-2.ensures) at c.if-unheld.false in
    rw (c.in_rows.ensures, c.in_rows-2.ensures) (sym (held_both c.args.tasks.now c.args.handlers.now none))
