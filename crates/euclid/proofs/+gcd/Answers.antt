use mathlib.Core.Path.{sym, ap, ◌∙◌}
use native.Mathlib.Nat.{mod-lt}
use native.Mathlib.Omega.{arith}
use Rattle.euclid.specs.Euclid as euclid
use Rattle.euclid.proofs.Divisors.{gcd-zero, gcd-next}
use Rattle.euclid.proofs.+gcd.Goals as goal

pub gcd-requires : goal.gcd-requires
gcd-requires t c = (omega (arith, mod-lt c.args.a {m = c.args.b} (omega arith)), tt)

pub returns-then-b-eq0 : goal.returns-then-b-eq0
returns-then-b-eq0 t c = sym (ap (euclid.gcd _) c.if-b-eq0.true ∙ gcd-zero _)

pub returns-else-b-eq0 : goal.returns-else-b-eq0
returns-else-b-eq0 t c = c.gcd.ensures ∙ sym (gcd-next _ _ (omega arith))
