-- Answers that meet the promise, and that it allows one answer only.
use mathlib.Core.List.{List}
use mathlib.Core.Path.{◌≡◌, sym, ◌∙◌}
use native.Mathlib.Omega.{arith}
use Prim.Native.Nat.{ℕ, zero, suc, ◌<◌}
use lib.Dec.{eqb-suc-zero}
use Rattle.std.specs.Prelude.{Ok, Err}
use Rattle.demand.specs.Numbered.{number_of}
use Rattle.demand.specs.Refusals.{table_refusal}
use Rattle.demand.specs.Rows.{tasks_of, handlers_of}
use Rattle.demand.specs.declared.refusal.Refusal.{Refusal}
use Rattle.demand.proofs.Numbered.{answered-ok, answered-err, number-pos}
use Rattle.priority.specs.Answers.{Figures, figures, no_lengths, figures_by, ResponsesSay, ResponsesUnique}
use Rattle.priority.specs.Responses.{leasts}

module _ (t h : List ℕ) where
  -- The lengths of a table that is not refused.
  pub found-says : (ls : List ℕ) → table_refusal t h ≡ 0 → ls ≡ leasts (tasks_of t) (handlers_of h) → ResponsesSay t h (Ok ls)
  unfolding figures figures_by
  found-says ls none is = record { answer = answered-ok _ _ _ none is; figured = rw (none, is) }

  -- No length where there is a refusal.
  pub refused_says : (e : Refusal) → number_of e ≡ table_refusal t h → ResponsesSay t h (Err e)
  unfolding figures figures_by
  refused_says e same = record { answer = answered-err _ _ e same; figured = told (number_of e) (number-pos e) same }
    where
      told : (k : ℕ) → 0 < k → k ≡ table_refusal t h → ◌≡◌ {A = Figures} (record { code = k; least = no_lengths }) (figures_by (table_refusal t h) (leasts (tasks_of t) (handlers_of h)))
      told zero some e = absurd (omega arith)
      told (suc k) some e = rw (sym e, eqb-suc-zero k)

-- Two answers that the promise allows are equal.
pub responses-unique : ResponsesUnique
responses-unique t h r s a b = a.answer ∙ sym b.answer
