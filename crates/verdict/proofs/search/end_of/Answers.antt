use native.Mathlib.Omega.{arith}
use borrow.Author.Tests.{lt-ltb, le-ltb}
use native.Mathlib.Nat.{zero-div}
use Prim.Native.Nat.{◌-◌}
use Rattle.verdict.specs.Inside.Search.{end_by}
use Rattle.verdict.proofs.search.end_of.Goals as goal

pub returns-then-h-w : goal.returns-then-h-w
unfolding end_by
returns-then-h-w c = simp (le-ltb _ _ c.if-h-w.true)

pub returns-then-bound-eq0 : goal.returns-then-bound-eq0
unfolding end_by
returns-then-bound-eq0 c = simp (lt-ltb _ _ c.if-h-w.false, c.if-bound-eq0.true) (omega (arith, zero-div (c.args.h - c.args.w)))

pub returns : goal.returns
unfolding end_by
returns c = simp (lt-ltb _ _ c.if-h-w.false) (grind (arith, c.min.ensures))
