use mathlib.Core.Bool.{Bool, true, false}
use mathlib.Core.Path.{◌≡◌, refl, ap, ◌∙◌}
use mir.Val.{bool_byte}
use Rattle.demand.specs.Tests.{pick}
use native.Mathlib.Omega.{arith}
use Prim.Native.Nat.{ℕ, ◌+◌, ◌-◌}
use lib.ListN.{drop}
use Rattle.recost.specs.Inside.Scan.{cost_from}
use Rattle.recost.proofs.Scan.{scan-stops, scan-goes, scan-ends}
use Rattle.recost.proofs.cost_from.Goals as goal

one-of : (b : Bool) → bool_byte b ≡ pick b 1 0
one-of true = refl
one-of false = refl

pub returns-then-begins-left : goal.returns-then-begins-left
returns-then-begins-left c =
    let stop = scan-stops c.args.bytes.now c.loop-i.i c.loop-i.left c.loop-i-test.true (rw c.opens-begins.ensures at c.if-begins-left.true) in
    omega (arith, stop, c.loop-i.invariant.1)

pub loop-i-preserved : goal.loop-i-preserved
loop-i-preserved c =
    let bs = c.args.bytes.now in
    let i = c.loop-i.i in
    let on = scan-goes bs i c.loop-i.left c.loop-i-test.true (rw c.opens-begins.ensures at c.if-begins-left.false) in
    let fewer = c.saturating_sub-left.ensures ∙ ap (λ (n : ℕ). c.loop-i.left - n) (c.from.ensures ∙ one-of _ ∙ ap (λ (b : Bool). pick b 1 0) c.opens-begins.ensures) in
    let left = ap (λ (k : ℕ). cost_from (drop (i + 1) bs) k) fewer in
    (omega arith, omega (arith, on, left, c.loop-i.invariant.1))

pub returns : goal.returns
returns c =
    let end = scan-ends c.args.bytes.now c.loop-i.i c.loop-i.left (omega arith) in
    omega (arith, end, c.loop-i.invariant.1)
