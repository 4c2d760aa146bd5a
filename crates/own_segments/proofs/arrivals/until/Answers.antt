use Rattle.demand.specs.Rows.{row_of}
use native.Mathlib.Omega.{arith}
use native.Mathlib.Nat.{mod-lt}
use Rattle.own_segments.proofs.Rhythms.{rests}
use Rattle.own_segments.proofs.arrivals.until.Goals as goal

pub overflow_sub-row : goal.overflow_sub-row
overflow_sub-row c =
    omega (arith, mod-lt c.args.tick {m = c.args.row.period} (omega (arith, c.requires.period.least)))

pub returns : goal.returns
returns c =
    let below = mod-lt c.args.tick {m = c.args.row.period} (omega (arith, c.requires.period.least)) in
    (omega (arith, c.min.ensures), rests (row_of c.args.row) _ _ (omega (arith, c.if-rest-eq0.false)) (omega (arith, c.min.ensures, below)))
