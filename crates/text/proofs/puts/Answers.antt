use Rattle.std.proofs.Common.{ap, get_or, ◌∙◌}
use Rattle.text.specs.Text.{put_of}
use mathlib.Core.List.{List}
use Prim.Native.Nat.{ℕ}
use Rattle.text.proofs.Writes.{puts_none, puts-take}
use Rattle.text.proofs.puts.Goals as goal

pub loop-b-init : goal.loop-b-init
loop-b-init c = puts_none _

pub loop-b-preserved : goal.loop-b-preserved
loop-b-preserved c =
    let b = get_or c.args.s.now c.loop-b.b-index 0 in
    c.put-out.ensures ∙ ap (λ (x : List ℕ). put_of x b) c.loop-b.invariant ∙ puts-take c.args.text c.args.s.now c.loop-b.b-index c.loop-b-test.true
