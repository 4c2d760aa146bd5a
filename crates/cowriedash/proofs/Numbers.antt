-- The numbers that a call leaves are determined: two that its promise allows are equal.
use mathlib.Core.List.{List}
use mathlib.Core.Path.{◌≡◌, refl, sym, ap, ◌∙◌}
use lib.IntN.{ℤ}
use Prim.Native.Nat.{ℕ}
use Rattle.std.specs.Prelude.{Result, Ok, Err}
use Rattle.demand.proofs.Answers.{demand-unique, handler-unique, margin-unique}
use Rattle.demand.specs.Answers.{figures, handler_figures, margin_figures}
use Rattle.demand.specs.Refusals.{asked_refusal}
use Rattle.demand.specs.Rows.{tasks_of, handlers_of}
use Rattle.demand.specs.declared.Spare.{Spare}
use Rattle.demand.specs.declared.refusal.Refusal.{Refusal}
use Rattle.verdict.specs.Promise.{answer_numbers}
use Rattle.verdict.proofs.Promise.{verdict-unique}
use Rattle.cowriedash.specs.Numbers.{demand_numbers, handler_numbers, DemandFigured, HandlerFigured, DemandRefused, HandlerRefused, VerdictTold, DemandTold, HandlerTold, MarginTold}

pub verdict-told-unique : (t h a b : List ℕ) → VerdictTold t h a → VerdictTold t h b → a ≡ b
verdict-told-unique t h a b p q = p.numbers ∙ ap answer_numbers (verdict-unique t h p.answer q.answer p.says q.says) ∙ sym q.numbers

pub demand-told-unique : (k n : ℕ) (a b : List ℕ) → DemandTold k n a → DemandTold k n b → a ≡ b
demand-told-unique k n a b p q = p.numbers ∙ ap demand_numbers (demand-unique k n p.answer q.answer p.says q.says) ∙ sym q.numbers

pub handler-told-unique : (t h : List ℕ) (l : ℕ) (a b : List ℕ) → HandlerTold t h l a → HandlerTold t h l b → a ≡ b
handler-told-unique t h l a b p q =
    let same = handler-unique (asked_refusal t h l) (handlers_of h) l p.answer q.answer p.says q.says in
    p.numbers ∙ ap handler_numbers same ∙ sym q.numbers

pub margin-told-unique : (t h : List ℕ) (l j k : ℕ) (y z : ℤ) (m n : ℕ) → MarginTold t h l j y m → MarginTold t h l k z n
    → (j ≡ k) × (y ≡ z) × (m ≡ n)
margin-told-unique t h l j k y z m n p q =
    let same = margin-unique (asked_refusal t h l) (tasks_of t) (handlers_of h) l p.answer q.answer p.says q.says in (
      p.figured.code ∙ ap (λ (a : Result Spare Refusal). (margin_figures a).code) same ∙ sym q.figured.code,
      p.figured.ticks ∙ ap (λ (a : Result Spare Refusal). (margin_figures a).ticks) same ∙ sym q.figured.ticks,
      p.figured.left ∙ ap (λ (a : Result Spare Refusal). (margin_figures a).left) same ∙ sym q.figured.left,
    )

-- What is laid out of a demand are its figures.
pub demand-figured : DemandFigured
unfolding figures
demand-figured (Ok n) = (refl, refl)
demand-figured (Err e) = (refl, refl)

pub demand-refused : DemandRefused
demand-refused k = (refl, refl)

pub handler-figured : HandlerFigured
unfolding handler_figures
handler-figured (Ok share) = (refl, refl, refl)
handler-figured (Err e) = (refl, refl, refl)

pub handler-refused : HandlerRefused
handler-refused k = (refl, refl, refl)
