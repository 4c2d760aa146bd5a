use mathlib.Core.Path.{sym, ap, ◌∙◌}
use native.Mathlib.Omega.{arith}
use Rattle.own_segments.specs.Inside.{count_by, out_by}
use Rattle.own_segments.proofs.Pens.{room_most}
use Rattle.scheduler.specs.declared.Ran.{Ran}
use Rattle.own_segments.proofs.pen.closed.Goals as goal

pub overflow_add-result : goal.overflow_add-result
overflow_add-result c =
    let start = c.requires in
    omega (arith, start.1, room_most _ _ start.0)

pub overflow_add-result-in-Task : goal.overflow_add-result-in-Task
overflow_add-result-in-Task c =
    let start = c.requires in
    omega (arith, start.1, room_most _ _ start.0)

pub returns-in-Handler : goal.returns-in-Handler
returns-in-Handler c =
    let x = c.args in
    let told = c.in-Handler.is in (
      sym (ap (λ (r : Ran). count_by r x.pen.count) told),
      c.put.ensures ∙ sym
          (ap (λ (r : Ran). out_by r x.out.now x.pen.count x.pen.from x.tick x.room) told),
    )

pub returns-in-Task : goal.returns-in-Task
returns-in-Task c =
    let x = c.args in
    let told = c.in-Task.is in (
      sym (ap (λ (r : Ran). count_by r x.pen.count) told),
      c.put-in-Task.ensures ∙ sym
          (ap (λ (r : Ran). out_by r x.out.now x.pen.count x.pen.from x.tick x.room) told),
    )
