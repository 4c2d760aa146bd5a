use native.Mathlib.Omega.{arith}
use native.Mathlib.Nat.{pos_of_ne-zero}
use mathlib.Core.Path.{sym, ◌∙◌}
use Rattle.charges.proofs.Answers.{quantum-unknown, quantum-useless, quantum-charged, can-load, can-charge, handlers-small, inside-short}
use Rattle.charges.proofs.by_quantum.Goals as goal

pub returns-then-not-known : goal.returns-then-not-known
returns-then-not-known c = quantum-unknown _ _ _ (sym (c.if-not-known.true) ∙ c.requires.0)

pub useful-useful-requires : goal.useful-useful-requires
useful-useful-requires c = handlers-small c.args.tasks.now _ (sym (c.if-not-known.false) ∙ c.requires.0) _ (inside-short _ c.requires.1)

pub returns-then-useful-eq0 : goal.returns-then-useful-eq0
returns-then-useful-eq0 c = quantum-useless c.args.tasks.now _ (sym (c.if-not-known.false) ∙ c.requires.0) _ (sym c.useful-useful.ensures ∙ c.if-useful-eq0.true)

pub load-requires : goal.load-requires
load-requires c =
    let known = sym (c.if-not-known.false) ∙ c.requires.0 in (
      record { some = pos_of_ne-zero c.if-useful-eq0.false; part = omega (arith, c.useful-useful.ensures); short = inside-short _ c.requires.1 },
      can-load _ c.args.handlers.now known,
      can-charge c.args.tasks.now _ known,
    )

pub returns : goal.returns
returns c =
    let known = sym (c.if-not-known.false) ∙ c.requires.0 in
    quantum-charged _ _ known _ _ _ _ c.useful-useful.ensures (pos_of_ne-zero c.if-useful-eq0.false) c.load.ensures c.by_load.ensures
