use mathlib.Core.Path.{sym}
use borrow.Author.Rules.{rules}
use borrow.Author.Tests.{lt-ltb, le-ltb}
use Rattle.scheduler.specs.Scans.{any}
use Rattle.scheduler.specs.Tick.{goes_to}
use Rattle.scheduler.proofs.Steps.Scan.{any-zero, any-skip, first-none, first-here, at-end}
use Rattle.scheduler.proofs.tick.goes_to.Goals as goal

pub loop-i-init : goal.loop-i-init
loop-i-init c = any-zero _

pub returns-then-run-n-gt0 : goal.returns-then-run-n-gt0
unfolding goes_to
returns-then-run-n-gt0 c = sym (first-here _ _ _ _ _ c.loop-i.invariant (lt-ltb _ _ c.if-run-n-gt0.true) (search rules))

pub loop-i-preserved : goal.loop-i-preserved
loop-i-preserved c = any-skip _ _ c.loop-i.invariant (le-ltb _ _ c.if-run-n-gt0.false)

pub returns-in-Some : goal.returns-in-Some
unfolding goes_to
returns-in-Some c = rw (first-none _ _ _ _ (sym (at-end (any _) _ _ (search rules) c.loop-i-test.false (sym c.loop-i.invariant))), ← c.earliest.ensures, c.in-Some.is)

pub returns-in-None : goal.returns-in-None
unfolding goes_to
returns-in-None c = rw (first-none _ _ _ _ (sym (at-end (any _) _ _ (search rules) c.loop-i-test.false (sym c.loop-i.invariant))), ← c.earliest.ensures, c.in-None.is)
