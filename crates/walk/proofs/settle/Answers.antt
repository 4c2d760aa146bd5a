use mathlib.Core.Path.{◌≡◌, refl, ap, sym, ◌∙◌}
use native.Mathlib.Omega.{arith}
use lib.ListN.{length, set, length-set}
use Prim.Native.Nat.{ℕ, ◌-◌}
use Rattle.walk.proofs.Settling.{settled-turn, settled_here, settled-last}
use Rattle.walk.proofs.settle.Goals as goal

pub loop-i-init : goal.loop-i-init
loop-i-init c = (c.requires, refl, refl)

pub returns-then-e-other : goal.returns-then-e-other
returns-then-e-other c =
    let turn = c.loop-i in
    settled_here turn.q turn.i c.args.e (omega arith) (omega arith) ∙ turn.invariant.2

pub loop-i-preserved : goal.loop-i-preserved
loop-i-preserved c =
    let turn = c.loop-i in
    (simp length-set (omega arith), simp length-set (omega arith), settled-turn turn.q turn.i c.args.e (omega arith) (omega arith) ∙ turn.invariant.2)

pub returns : goal.returns
returns c =
    let turn = c.loop-i in
    let last : turn.i ≡ length c.args.q.now - 1 = omega arith in
    ap (λ (n : ℕ). set turn.q n c.args.e) (sym last) ∙ settled-last turn.q turn.i c.args.e (omega arith) (omega arith) ∙ turn.invariant.2
