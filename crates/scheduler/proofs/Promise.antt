-- What meets the promises of `fresh` and `step`: the answer's own definition. So they allow one answer.
use mathlib.Core.List.{List}
use mathlib.Core.Logic.{◌⊎◌, inl, inr}
use mathlib.Core.Path.{◌≡◌, refl, sym, ap, ◌∙◌}
use native.Mathlib.Nat.{eq-zero-or-pos}
use native.Mathlib.Omega.{arith}
use borrow.Author.Tests.{eq-eqb, ne_eqb}
use Prim.Native.Nat.{ℕ, ◌<◌}
use Rattle.demand.specs.Numbered.{refusal_at, refused}
use Rattle.demand.specs.Refusals.{table_refusal}
use Rattle.machine.specs.Live.{Live}
use Rattle.scheduler.specs.Promise.{figures, figures_by, FreshSays, StepSays, FreshUnique, StepUnique}
use Rattle.scheduler.specs.Start.{fresh_of}
use Rattle.scheduler.specs.Steps.{step_refusal, step_by}
use Rattle.scheduler.specs.Tick.{ticked_by}
use Rattle.scheduler.specs.declared.Fresh.{Fresh}
use Rattle.scheduler.specs.declared.Run.{Run}
use Rattle.scheduler.specs.declared.Stepped.{Stepped}
use Rattle.scheduler.proofs.Steps.Answers.{step-ticks, step-refused, step-known}
use Rattle.scheduler.proofs.Steps.Tables.{fresh-ready, fresh-refused, table-known}

pub fresh-says : (t h : List ℕ) (a : Fresh) → a ≡ fresh_of t h → FreshSays t h a
fresh-says t h a e = go (eq-zero-or-pos (table_refusal t h))
  where
    go : (table_refusal t h ≡ 0) ⊎ (0 < table_refusal t h) → FreshSays t h a
    go (inl none) = record {
      answer = e;
      figured = ap (λ (x : Fresh). refused x.answer) (e ∙ fresh-ready t h none) ∙ sym none;
      zeros = λ some. absurd (omega arith);
    }
    go (inr some) =
        let known = table-known t h (λ none. omega arith) in
        let is = e ∙ fresh-refused t h (refusal_at (table_refusal t h)) known in
        record {
          answer = e;
          figured = ap (λ (x : Fresh). refused x.answer) is ∙ known;
          zeros = λ _. ap (λ (x : Fresh). x.run) is;
        }

module _ (key : Live → ℕ) (r : Run) (ws : List ℕ) where
  -- The figures of a tick, ..
  ticked-figured : step_refusal r ws ≡ 0 → figures (ticked_by key r ws).answer ≡ figures_by key r ws
  unfolding figures ticked_by figures_by
  ticked-figured none = simp (eq-eqb _ _ none)

  -- .. and those of a refusal.
  refused-figured : 0 < step_refusal r ws → figures (step_by key r ws).answer ≡ figures_by key r ws
  unfolding figures figures_by
  refused-figured some =
      ap (λ (x : Stepped). figures x.answer) (step-refused key r ws (step_refusal r ws) refl (λ none. omega arith))
      ∙ rw (ne_eqb (step_refusal r ws) 0 (λ none. omega arith), step-known r ws (λ none. omega arith)) refl

  pub step-says : (a : Stepped) → a ≡ step_by key r ws → StepSays key r ws a
  step-says a e = go (eq-zero-or-pos (step_refusal r ws))
    where
      go : (step_refusal r ws ≡ 0) ⊎ (0 < step_refusal r ws) → StepSays key r ws a
      go (inl none) = record {
        answer = e;
        figured = ap (λ (x : Stepped). figures x.answer) (e ∙ step-ticks key r ws none) ∙ ticked-figured none;
        same = λ some. absurd (omega arith);
      }
      go (inr some) = record {
        answer = e;
        figured = ap (λ (x : Stepped). figures x.answer) e ∙ refused-figured some;
        same = λ _. ap (λ (x : Stepped). x.run) (e ∙ step-refused key r ws (step_refusal r ws) refl (λ none. omega arith));
      }

pub fresh-unique : FreshUnique
fresh-unique t h a b p q = p.answer ∙ sym q.answer

pub step-unique : StepUnique
step-unique key r ws a b p q = p.answer ∙ sym q.answer
