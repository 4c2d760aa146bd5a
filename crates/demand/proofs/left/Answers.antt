use native.Mathlib.Omega.{arith}
use Rattle.demand.specs.Demands.{left}
use Rattle.demand.specs.Rows.{handlers_of}
use Rattle.demand.proofs.Demands.{handled-le-called}
use Rattle.demand.proofs.left.Goals as goal

pub overflow_sub-result : goal.overflow_sub-result
overflow_sub-result c =
    omega (arith, c.called.ensures, c.requires.1, handled-le-called (handlers_of c.args.handlers.now) c.args.l)

pub returns : goal.returns
unfolding left
returns c = omega (arith, c.called.ensures, c.requires.1)
