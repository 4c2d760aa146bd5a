use mathlib.Core.Path.{sym}
use borrow.Author.Rules.{rules}
use Rattle.scheduler.specs.Scans.{any}
use Rattle.scheduler.specs.Tick.{late_row}
use Rattle.scheduler.proofs.Steps.Scan.{any-zero, any-skip, first-none, first-here, at-end}
use Rattle.scheduler.proofs.tick.late_row.Goals as goal

pub loop-k-init : goal.loop-k-init
loop-k-init c = any-zero _

pub returns-then-run-k : goal.returns-then-run-k
unfolding late_row
returns-then-run-k c = sym (first-here _ _ _ _ _ c.loop-k.invariant c.if-run-k.true (search rules))

pub loop-k-preserved : goal.loop-k-preserved
loop-k-preserved c = any-skip _ _ c.loop-k.invariant c.if-run-k.false

pub returns : goal.returns
unfolding late_row
returns c = sym (first-none _ _ _ _ (sym (at-end (any _) _ _ (search rules) c.loop-k-test.false (sym c.loop-k.invariant))))
