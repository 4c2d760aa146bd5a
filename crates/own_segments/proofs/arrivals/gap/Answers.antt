use native.Mathlib.Omega.{arith}
use Rattle.own_segments.proofs.Rhythms.{rows-fair, quiet_next, quiet-end}
use Rattle.own_segments.proofs.arrivals.gap.Goals as goal

pub count-all-requires : goal.count-all-requires
count-all-requires c = c.requires

pub loop-k-init : goal.loop-k-init
loop-k-init c = (omega arith, λ j l. absurd (omega arith))

pub row_at-requires : goal.row_at-requires
row_at-requires c = (c.requires, c.count-n.ensures, omega (arith, c.count-all.ensures))

pub until-least-requires : goal.until-least-requires
until-least-requires c = rw c.row_at.ensures (rows-fair _ _ c.requires _ (omega (arith, c.count-all.ensures)))

pub loop-k-preserved : goal.loop-k-preserved
loop-k-preserved c =
    let loop = c.loop-k in (
      omega (arith, c.until-least.ensures.0),
      quiet_next _ _ _ _ _ _ _ loop.invariant.1 c.until-least.ensures.0 c.row_at.ensures c.until-least.ensures.1,
    )

pub returns : goal.returns
returns c =
    let loop = c.loop-k in
    (loop.invariant.0, quiet-end _ _ _ _ _ (omega (arith, c.count-all.ensures)) loop.invariant.1)
