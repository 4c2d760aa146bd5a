use Rattle.std.proofs.Common.{ap, get_or, ◌∙◌}
use Rattle.text.specs.Numbers.{decimal, comma}
use Rattle.text.specs.Text.{put_of, puts_of}
use mathlib.Core.List.{List}
use Prim.Native.Nat.{ℕ}
use Rattle.text.proofs.Writes.{puts_none, fields-take}
use Rattle.text.proofs.fields.Goals as goal

pub loop-n-init : goal.loop-n-init
loop-n-init c = puts_none _

pub loop-n-preserved : goal.loop-n-preserved
loop-n-preserved c =
    let figure = get_or c.args.figures.now c.loop-n.n-index 0 in
    c.number-out.ensures ∙ ap (λ (x : List ℕ). puts_of x (decimal figure)) c.put.ensures
    ∙ ap (λ (x : List ℕ). puts_of (put_of x comma) (decimal figure)) c.loop-n.invariant
    ∙ fields-take c.args.text c.args.figures.now c.loop-n.n-index c.loop-n-test.true
