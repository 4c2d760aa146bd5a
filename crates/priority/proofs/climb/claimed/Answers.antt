use native.Mathlib.Omega.{arith}
use Rattle.demand.specs.Rows.{handlers_of}
use Rattle.priority.specs.Inside.Ranks.{claimed}
use Rattle.priority.proofs.Inside.Climb.{tasks-fewer, handlers-fewer, claimed-most}
use Rattle.priority.proofs.Inside.Ranks.{work-all}
use Rattle.priority.proofs.climb.claimed.Goals as goal

pub work-requires : goal.work-requires
work-requires c = (handlers-fewer _ _ c.requires.0, omega (arith, c.requires.1))

pub work-requires-2 : goal.work-requires-2
work-requires-2 c = (tasks-fewer _ _ c.requires.0, omega (arith, c.requires.1))

pub overflow_add-result : goal.overflow_add-result
overflow_add-result c =
    let hs = handlers_of c.args.handlers.now in
    omega (
      arith,
      c.work.ensures,
      c.work-2.ensures,
      work-all 0 hs c.args.l (handlers-fewer _ _ c.requires.0),
      claimed-most _ _ c.requires.0 c.args.end c.args.l c.requires.1,
    )

pub returns : goal.returns
unfolding claimed
returns c =
    let hs = handlers_of c.args.handlers.now in
    omega (
      arith,
      c.work.ensures,
      c.work-2.ensures,
      work-all 0 hs c.args.l (handlers-fewer _ _ c.requires.0),
    )
