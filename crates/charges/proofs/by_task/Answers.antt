use mathlib.Core.Path.{sym, ◌∙◌}
use Rattle.charges.proofs.Answers.{task-unknown, task-charged, can-load, can-charge}
use Rattle.charges.proofs.by_task.Goals as goal

pub returns-then-not-known : goal.returns-then-not-known
returns-then-not-known c = task-unknown _ _ (sym (c.if-not-known.true) ∙ c.requires)

pub load-requires : goal.load-requires
load-requires c =
    let known = sym (c.if-not-known.false) ∙ c.requires in
    (tt, can-load _ c.args.handlers.now known, can-charge c.args.tasks.now _ known)

pub returns : goal.returns
returns c = task-charged _ _ (sym (c.if-not-known.false) ∙ c.requires) _ _ c.load.ensures c.by_load.ensures
