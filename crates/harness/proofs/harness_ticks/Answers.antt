use mathlib.Core.Path.{◌≡◌, ap, ◌∙◌}
use native.Mathlib.Omega.{arith}
use lib.ListN.{replicate}
use Rattle.machine.specs.Live.{due_of}
use Rattle.scheduler.specs.Books.{busy_by}
use Rattle.scheduler.specs.Steps.{step_of}
use Rattle.scheduler.specs.declared.Fresh.{Fresh}
use Rattle.scheduler.specs.declared.Stepped.{Stepped}
use Rattle.harness.proofs.Counted.{busy-most, to-come-start, to-come-turn, to-come-end}
use Rattle.harness.proofs.harness_ticks.Goals as goal

pub loop-i-init : goal.loop-i-init
loop-i-init c = (omega arith, to-come-start _ _ _)

pub overflow_add-count : goal.overflow_add-count
overflow_add-count c = omega (arith, c.busy-count.ensures, busy-most c.step-stepped.result.answer, c.loop-i.invariant.0)

pub loop-i-preserved : goal.loop-i-preserved
loop-i-preserved c =
    let inv = c.loop-i.invariant in
    let turn = to-come-turn _ _ _ _ c.step-stepped.result c.loop-i-test.true c.step-stepped.ensures in (
      omega (arith, c.busy-count.ensures, busy-most c.step-stepped.result.answer, inv.0),
      omega (arith, c.busy-count.ensures, turn, inv.1),
    )

pub returns : goal.returns
returns c =
    let a = c.args in
    let offers = replicate a.ticks a.rest.now in
    let inv = c.loop-i.invariant in
    let begun = c.step.ensures.answer in
    let fresh = c.fresh.ensures.answer in
    let counted : c.loop-i.count ≡ busy_by due_of offers c.step.result.run =
    omega (arith, inv.1, to-come-end a.ticks c.loop-i.i a.rest.now c.loop-i.run c.loop-i-test.false) in
    counted
    ∙ ap (λ (s : Stepped). busy_by due_of offers s.run) begun
    ∙ ap (λ (f : Fresh). busy_by due_of offers (step_of f.run a.first.now).run) fresh
