use Rattle.demand.specs.Refusals.{table_tests, table_refusal}
use Rattle.demand.proofs.Chains.{first-at, first-none}
use Rattle.demand.proofs.refusal.of_table.Goals as goal

pub returns-then-uneven : goal.returns-then-uneven
unfolding table_refusal table_tests
returns-then-uneven c =
    first-at (table_tests c.args.tasks.now c.args.handlers.now) 0 tt (rw (c.uneven.ensures, c.uneven-2.ensures) at c.if-uneven.true)

pub returns-then-miscounted : goal.returns-then-miscounted
unfolding table_refusal table_tests
returns-then-miscounted c =
    let even = rw (c.uneven.ensures, c.uneven-2.ensures) at c.if-uneven.false in
    first-at (table_tests c.args.tasks.now c.args.handlers.now) 1 (even, tt) (rw c.miscounted.ensures at c.if-miscounted.true)

pub returns-then-some_outside : goal.returns-then-some_outside
unfolding table_refusal table_tests
returns-then-some_outside c =
    let even = rw (c.uneven.ensures, c.uneven-2.ensures) at c.if-uneven.false in
    let counted = rw c.miscounted.ensures at c.if-miscounted.false in
    first-at (table_tests c.args.tasks.now c.args.handlers.now) 2 (even, (counted, tt)) (rw (c.some_outside.ensures, c.some_outside-2.ensures) at c.if-some_outside.true)

pub returns-then-some_deadline_outside : goal.returns-then-some_deadline_outside
unfolding table_refusal table_tests
returns-then-some_deadline_outside c =
    let even = rw (c.uneven.ensures, c.uneven-2.ensures) at c.if-uneven.false in
    let counted = rw c.miscounted.ensures at c.if-miscounted.false in
    let inside = rw (c.some_outside.ensures, c.some_outside-2.ensures) at c.if-some_outside.false in
    first-at (table_tests c.args.tasks.now c.args.handlers.now) 3 (even, (counted, (inside, tt))) (rw c.some_deadline_outside.ensures at c.if-some_deadline_outside.true)

pub returns : goal.returns
unfolding table_refusal table_tests
returns c =
    let even = rw (c.uneven.ensures, c.uneven-2.ensures) at c.if-uneven.false in
    let counted = rw c.miscounted.ensures at c.if-miscounted.false in
    let inside = rw (c.some_outside.ensures, c.some_outside-2.ensures) at c.if-some_outside.false in
    first-none (table_tests c.args.tasks.now c.args.handlers.now) (even, (counted, (inside, (rw c.some_deadline_outside.ensures at c.if-some_deadline_outside.false, tt))))
