use native.Mathlib.Omega.{arith}
use Rattle.demand.proofs.Padded.{padded-length, padded-next}
use Rattle.demand.proofs.flat.Flat.push.Goals as goal

pub invariant_of-self : goal.invariant_of-self
invariant_of-self g c =
    let inside = c.self.inside in
    let long = padded-length g.row.N inside.len inside.numbers _ c.self.invariant c.self.view_is in
    padded-next g.row.N inside.len inside.numbers _ c.args.number c.self.invariant c.self.view_is (omega (arith, long, c.if-self.true))
