use mathlib.Core.Path.{◌≡◌, refl, sym, ◌∙◌}
use native.Mathlib.Omega.{arith}
use Prim.Native.Nat.{◌+◌, ◌*◌}
use Rattle.segments.specs.Segments.{segments_of}
use Rattle.segments.proofs.Walks.Lent.{order-stop, order-turn, order-end}
use Rattle.segments.proofs.segment.disordered.Goals as goal

pub loop-k-init : goal.loop-k-init
loop-k-init c = refl

pub returns-then-misplaced : goal.returns-then-misplaced
returns-then-misplaced c =
    let here = c.loop-k in
    order-stop _ _ _ _ _ _ _ _ c.at-next.ensures here.invariant (sym c.misplaced.ensures ∙ c.if-misplaced.true)

pub loop-k-preserved : goal.loop-k-preserved
loop-k-preserved c =
    let here = c.loop-k in
    let next : 4 * (here.k + 1) ≡ 4 * here.k + 4 = omega arith in
    rw next (order-turn _ _ _ _ _ _ _ _ c.at-next.ensures here.invariant (sym c.misplaced.ensures ∙ c.if-misplaced.false))

pub returns : goal.returns
returns c =
    let x = c.args in
    let end = c.loop-k in
    order-end x.n x.m x.span end.a (4 * end.k) x.s.now (segments_of x.s.now) (omega arith) (omega arith) end.invariant
