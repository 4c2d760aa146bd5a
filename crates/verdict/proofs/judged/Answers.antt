use mathlib.Core.Path.{refl}
use native.Mathlib.Omega.{arith}
use Rattle.demand.proofs.Inside.Sizes.{small-less}
use Rattle.verdict.proofs.Readable.{readable-in-range, readable-table, common-small}
use Rattle.verdict.proofs.Sayings.{load_read, end_read, looks-read, whole-most, bound-fits, end_fits, says-fits, says-misses}
use Rattle.verdict.proofs.judged.Goals as goal

pub work-requires : goal.work-requires
work-requires c = (common-small _ _ c.requires.0 _ c.requires.1).1

pub work-requires-2 : goal.work-requires-2
work-requires-2 c = (common-small _ _ c.requires.0 _ c.requires.1).2

pub overflow_add-w : goal.overflow_add-w
overflow_add-w c =
    omega (arith, whole-most _ _ c.requires.0 c.args.h c.requires.1 _ _ c.work.ensures c.work-2.ensures)

pub of_work-load-requires : goal.of_work-load-requires
of_work-load-requires c =
    whole-most _ _ c.requires.0 _ c.requires.1 _ _ c.work.ensures c.work-2.ensures

pub costs-requires : goal.costs-requires
costs-requires c =
    small-less _ _ _ (omega arith) (common-small _ _ c.requires.0 _ c.requires.1).2

pub overflow_mul-bound : goal.overflow_mul-bound
overflow_mul-bound c =
    omega (arith, (bound-fits _ _ c.requires.0 c.args.h c.requires.1 _ _ c.costs.ensures refl).0)

pub slack-requires : goal.slack-requires
slack-requires c =
    ((common-small _ _ c.requires.0 _ c.requires.1).1, (readable-in-range _ _ c.requires.0).deadlines)

pub overflow_add-bound : goal.overflow_add-bound
overflow_add-bound c =
    omega (arith, bound-fits _ _ c.requires.0 c.args.h c.requires.1 _ _ c.costs.ensures c.slack.ensures)

pub first_failing-requires : goal.first_failing-requires
first_failing-requires c =
    let end = end_read _ _ _ _ _ c.requires.1 c.work.ensures c.work-2.ensures _ _ _ c.costs.ensures c.slack.ensures c.end_of-end.ensures in
    (readable-table _ _ c.requires.0, end_fits _ _ c.requires.0 _ c.requires.1 _ end)

pub returns-in-At : goal.returns-in-At
returns-in-At c =
    let tasks = c.work.ensures in
    let handlers = c.work-2.ensures in
    let load = load_read _ _ _ _ _ c.requires.1 tasks handlers _ c.of_work-load.ensures in
    let end = end_read _ _ _ _ _ c.requires.1 tasks handlers _ _ _ c.costs.ensures c.slack.ensures c.end_of-end.ensures in
    says-misses _ _ c.requires.0 _ _ load end _ _ _ c.first_failing.ensures c.in-At.is

pub returns-in-Nothing : goal.returns-in-Nothing
returns-in-Nothing c =
    let tasks = c.work.ensures in
    let handlers = c.work-2.ensures in
    let load = load_read _ _ _ _ _ c.requires.1 tasks handlers _ c.of_work-load.ensures in
    let end = end_read _ _ _ _ _ c.requires.1 tasks handlers _ _ _ c.costs.ensures c.slack.ensures c.end_of-end.ensures in
    says-fits _ _ c.requires.0 _ _ load end _ (looks-read _ _ _ _ _ c.requires.1 tasks handlers) _ _ c.first_failing.ensures c.in-Nothing.is
