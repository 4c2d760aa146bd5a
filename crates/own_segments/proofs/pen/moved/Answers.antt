use mathlib.Core.Path.{◌≡◌, refl, sym, ◌∙◌}
use Rattle.own_segments.specs.Inside.{same_ran}
use Rattle.scheduler.specs.declared.Ran.{Ran}
use Rattle.scheduler.specs.declared.Ran.TheVariants.{Handler, Task, Idle}
use Rattle.scheduler.specs.contracts.RanPartialEq.TheImpl as ran
use Rattle.own_segments.proofs.pen.moved.Goals as goal

same-is : (a b : Ran) → ran.ghosts.eq a b ≡ same_ran a b
same-is (Handler i) (Handler j) = refl
same-is (Handler i) (Task j) = refl
same-is (Handler i) Idle = refl
same-is (Task i) (Handler j) = refl
same-is (Task i) (Task j) = refl
same-is (Task i) Idle = refl
same-is Idle (Handler j) = refl
same-is Idle (Task j) = refl
same-is Idle Idle = refl

pub returns-then-eq : goal.returns-then-eq
returns-then-eq c = let test = sym (c.eq.ensures ∙ same-is c.args.pen.ran c.args.ran) ∙ c.if-eq.true in (rw test, rw test)

pub returns : goal.returns
returns c =
    let x = c.args in
    let test = sym (c.eq.ensures ∙ same-is x.pen.ran x.ran) ∙ c.if-eq.false in
    let closed = c.closed-count.ensures in
    (rw test (λ i. record { ran = x.ran; from = x.tick; count = closed.0 i }), rw test closed.1)
