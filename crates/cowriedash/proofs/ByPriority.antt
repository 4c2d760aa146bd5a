-- The numbers of fixed priorities are determined too.
use mathlib.Core.Path.{sym, ap, ◌∙◌}
use Rattle.std.specs.Prelude.{Result, List, ℕ}
use Rattle.demand.specs.declared.refusal.Refusal.{Refusal}
use Rattle.priority.proofs.Answers.{responses-unique}
use Rattle.priority.specs.Answers.{figures}
use Rattle.cowriedash.specs.ByPriority.{ResponsesToldUnique}

pub responses-told-unique : ResponsesToldUnique
responses-told-unique t h j k a b p q =
    let same = responses-unique t h p.answer q.answer p.says q.says in (
      p.figured.code ∙ ap (λ (x : Result (List ℕ) Refusal). (figures x).code) same ∙ sym q.figured.code,
      p.figured.lengths ∙ ap (λ (x : Result (List ℕ) Refusal). (figures x).least) same ∙ sym q.figured.lengths,
    )
