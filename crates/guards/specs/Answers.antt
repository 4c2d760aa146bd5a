-- What `rows` answers (02, M-107; 01, "Numbered refusals" and "Forms for each place").
--   rows_told a b p    == the answer that a guard's rows have the costs a and b and the period p
--   figures r         == the number and values of an answer: what does not apply is 0
--   no_figures k      == those of refusal k: its number, all others 0
--   figures_by k g     == the figures of a call on the guard g whose refusal is k: values only where nothing is refused
--   RowsSay g r       r is the answer to the guard g: refusals 14 and 3 in this order, else the costs of its two rows and their period
--   RowsUnique        two answers that the promise allows are equal
use Rattle.std.specs.Prelude.{◌≡◌, ℕ, eqb, Result, Ok, Err}
use Rattle.demand.specs.Numbered.{number_of, answered}
use Rattle.demand.specs.Tests.{pick}
use Rattle.demand.specs.declared.refusal.Refusal.{Refusal}
use Rattle.guards.specs.Guards.{interrupt_cost, timer_cost, gap_of, guard_refusal}
use Rattle.guards.specs.declared.Guard.{Guard}
use Rattle.guards.specs.declared.Pair.{Pair}

abbrev pub rows_told : ℕ → ℕ → ℕ → Result Pair Refusal
rows_told interrupt timer period = Ok (record { interrupt = interrupt; timer = timer; period = period })

pub record Figures : Type 0 where
  pub code : ℕ
  pub interrupt : ℕ
  pub timer : ℕ
  pub period : ℕ

abbrev pub no_figures : ℕ → Figures
no_figures k = record { code = k; interrupt = 0; timer = 0; period = 0 }

unfoldable pub figures : Result Pair Refusal → Figures
figures (Ok pair) = record { code = 0; interrupt = pair.interrupt; timer = pair.timer; period = pair.period }
figures (Err e) = no_figures (number_of e)

unfoldable pub figures_by : ℕ → Guard → Figures
figures_by k g = record {
  code = k;
  interrupt = pick (eqb k 0) (interrupt_cost g) 0;
  timer = pick (eqb k 0) (timer_cost g) 0;
  period = pick (eqb k 0) (gap_of g) 0;
}

pub record RowsSay (g : Guard) (r : Result Pair Refusal) : Type 0 where
  pub answer : r ≡ answered (guard_refusal g) (record { interrupt = interrupt_cost g; timer = timer_cost g; period = gap_of g })
  pub figured : figures r ≡ figures_by (guard_refusal g) g

abbrev pub RowsUnique : Type 0
RowsUnique = (g : Guard) (r s : Result Pair Refusal) → RowsSay g r → RowsSay g s → r ≡ s
