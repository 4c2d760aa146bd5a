use mathlib.Core.Path.{ap, ◌∙◌}
use Rattle.text.specs.Text.{put_of}
use mathlib.Core.List.{List}
use Prim.Native.Nat.{ℕ}
use Rattle.text.proofs.Writes.{puts-digit, puts-digits}
use Prim.Native.Nat.{◌+◌, ◌%◌}
use Rattle.text.proofs.+number.Goals as goal

pub returns-then-n-lt10 : goal.returns-then-n-lt10
returns-then-n-lt10 t c = c.put.ensures ∙ ap (put_of _) c.digit.ensures ∙ puts-digit _ _ c.if-n-lt10.true

pub returns : goal.returns
returns t c =
    c.put-2.ensures ∙ ap (put_of _) c.digit-2.ensures ∙ ap (λ (t : List ℕ). put_of t (48 + c.args.n % 10)) c.number-front.ensures
    ∙ puts-digits c.args.text c.args.n c.if-n-lt10.false c.ranges.n.fits
