use native.Mathlib.Omega.{arith}
use Rattle.walk.proofs.Adding.{add-fits, add-joined, add-inserted}
use Rattle.walk.proofs.add.Goals as goal

pub overflow_add-q : goal.overflow_add-q
overflow_add-q c = omega (arith, add-fits c.args.e c.args.k c.args.q.now c.requires c.in-Some.i c.in-Some.ensures)

pub returns-in-Some : goal.returns-in-Some
returns-in-Some c = add-joined _ _ _ c.requires _ c.in-Some.ensures

pub returns-in-None : goal.returns-in-None
returns-in-None c = add-inserted _ _ _ c.requires _ c.settle.ensures
