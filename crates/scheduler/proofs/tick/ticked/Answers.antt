use native.Mathlib.Omega.{arith}
use Rattle.scheduler.proofs.Steps.Answers.{passed}
use Rattle.scheduler.proofs.Steps.Clauses.{clauses, clauses-fit, clauses-table, clauses-clock, clauses-owed}
use Rattle.scheduler.proofs.Steps.Goes.{goes-pays}
use Rattle.scheduler.proofs.Steps.Ticks.{tick-made}
use Rattle.scheduler.proofs.tick.ticked.Goals as goal

pub move_next-requires : goal.move_next-requires
move_next-requires c =
    let p = passed _ _ c.requires in
    let b = clauses _ p.in_bounds in
    (clauses-table _ b, clauses-clock _ b, p.count)

pub move_due-requires : goal.move_due-requires
move_due-requires c =
    let p = passed _ _ c.requires in
    let b = clauses _ p.in_bounds in
    (clauses-table _ b, clauses-clock _ b, p.count)

pub add_work-requires : goal.add_work-requires
add_work-requires c =
    let p = passed _ _ c.requires in
    let b = clauses _ p.in_bounds in
    let fit = clauses-fit _ b in
    (omega (arith, p.count, fit.tasks, fit.handlers), λ k l. clauses-owed _ b k (omega (arith, p.count)))

pub chosen-ran-requires : goal.chosen-ran-requires
chosen-ran-requires c =
    clauses-fit _ (clauses _ (passed _ _ c.requires).in_bounds)

pub pay-requires : goal.pay-requires
pay-requires c =
    let fit = clauses-fit _ (clauses _ (passed _ _ c.requires).in_bounds) in
    (fit.tasks, goes-pays _ _ _ _ fit.tasks fit.handlers _ c.chosen-ran.ensures)

pub overflow_add-after : goal.overflow_add-after
overflow_add-after c = omega (arith, (passed _ _ c.requires).soon)

pub late_row-late-requires : goal.late_row-late-requires
late_row-late-requires c = (clauses-fit _ (clauses _ (passed _ _ c.requires).in_bounds)).tasks

pub returns : goal.returns
returns c =
    tick-made c.args.key _ _ _ _ _ _ _ _ _
    (passed _ _ c.requires).count
    c.move_next.ensures
    c.move_due.ensures
    c.add_work.ensures
    c.chosen-ran.ensures
    c.pay.ensures
    c.late_row-late.ensures
    c.is_some.ensures
