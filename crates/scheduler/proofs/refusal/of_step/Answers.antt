use mathlib.Core.Path.{sym, ◌∙◌}
use native.Mathlib.Omega.{arith}
use Rattle.scheduler.proofs.Steps.Answers.{refusal-6, refusal-7, refusal-8, refusal-9, refusal-10, refusal-11, refusal-0}
use Rattle.scheduler.proofs.Steps.Clauses.{clauses, clauses-fit}
use Rattle.scheduler.proofs.refusal.of_step.Goals as goal

pub returns-then-out_of_bounds : goal.returns-then-out_of_bounds
returns-then-out_of_bounds c = refusal-6 _ _ (sym c.if-out_of_bounds.true ∙ c.out_of_bounds.ensures)

pub returns-then-run : goal.returns-then-run
returns-then-run c = refusal-7 _ _ (sym c.if-out_of_bounds.false ∙ c.out_of_bounds.ensures) c.if-run.true

pub returns-then-run-eq-TICKS_MOST : goal.returns-then-run-eq-TICKS_MOST
returns-then-run-eq-TICKS_MOST c =
    refusal-8 _ _ (sym c.if-out_of_bounds.false ∙ c.out_of_bounds.ensures) c.if-run.false c.if-run-eq-TICKS_MOST.true

pub overflow_add-run : goal.overflow_add-run
overflow_add-run c =
    let fit = clauses-fit _ (clauses _ (sym c.out_of_bounds.ensures ∙ c.if-out_of_bounds.false)) in
    omega (arith, fit.tasks, fit.handlers)

pub returns-then-arrivals-run : goal.returns-then-arrivals-run
returns-then-arrivals-run c =
    refusal-9 _ _ (sym c.if-out_of_bounds.false ∙ c.out_of_bounds.ensures) c.if-run.false c.if-run-eq-TICKS_MOST.false c.if-arrivals-run.true

pub some_early-requires : goal.some_early-requires
some_early-requires c =
    let fit = clauses-fit _ (clauses _ (sym c.out_of_bounds.ensures ∙ c.if-out_of_bounds.false)) in
    omega (arith, fit.tasks, fit.handlers)

pub returns-then-some_early : goal.returns-then-some_early
returns-then-some_early c =
    refusal-10 _ _ (sym c.if-out_of_bounds.false ∙ c.out_of_bounds.ensures) c.if-run.false c.if-run-eq-TICKS_MOST.false c.if-arrivals-run.false
    (sym c.some_early.ensures ∙ c.if-some_early.true)

pub some_heavy-requires : goal.some_heavy-requires
some_heavy-requires c =
    (clauses-fit _ (clauses _ (sym c.out_of_bounds.ensures ∙ c.if-out_of_bounds.false)), c.if-arrivals-run.false)

pub returns-then-some_heavy : goal.returns-then-some_heavy
returns-then-some_heavy c =
    refusal-11 _ _ (sym c.if-out_of_bounds.false ∙ c.out_of_bounds.ensures) c.if-run.false c.if-run-eq-TICKS_MOST.false c.if-arrivals-run.false
    (sym c.some_early.ensures ∙ c.if-some_early.false)
    (sym c.some_heavy.ensures ∙ c.if-some_heavy.true)

pub returns : goal.returns
returns c =
    refusal-0 _ _ (sym c.if-out_of_bounds.false ∙ c.out_of_bounds.ensures) c.if-run.false c.if-run-eq-TICKS_MOST.false c.if-arrivals-run.false
    (sym c.some_early.ensures ∙ c.if-some_early.false)
    (sym c.some_heavy.ensures ∙ c.if-some_heavy.false)
