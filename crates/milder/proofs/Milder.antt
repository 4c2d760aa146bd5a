-- A milder guard costs no more (specs/Milder), and what the call answers for a guard.
use mathlib.Core.Bool.{Bool, true, false}
use mathlib.Core.Path.{◌≡◌, refl, ap, sym, ◌∙◌}
use native.Mathlib.Nat.{mul-le-mul}
use native.Mathlib.Omega.{arith}
use Prim.Native.Nat.{ℕ, ◌+◌, ◌*◌, ◌≤◌}
use Rattle.demand.specs.Refusals.{FairRow}
use Rattle.demand.specs.Tests.{pick}
use Rattle.guards.specs.Answers.{Figures, figures, figures_by, RowsSay, rows_told}
use Rattle.guards.specs.Guards.{interrupt_cost, timer_cost, gap_of, burst_outside, handler_row, rows_outside, guard_refusal}
use Rattle.guards.specs.declared.Guard.{Guard}
use Rattle.guards.specs.declared.Guard.TheVariants.{Strict, Bursty}
use Rattle.guards.proofs.Answers.{rows-fair, refusal_is}
use Rattle.milder.specs.Milder.{Milder}

-- Both costs of a milder guard are at most those of the guard, whichever its kind.
pub cost-milder : (g' g : Guard) → Milder g' g → (interrupt_cost g' ≤ interrupt_cost g) × (timer_cost g' ≤ timer_cost g)
cost-milder (Strict int' flip' setup' work' expire' gap') (Strict int flip setup work expire gap) m =
    let (_, (_, (_, (_, (_, _))))) = m.counts in
    (omega arith, omega arith)
cost-milder (Bursty n' int' flip' work' expire' count' clear' gap') (Bursty n int flip work expire count clear gap) m =
    let (few, (_, (_, (_, (_, (_, (_, _))))))) = m.counts in
    let less : int' + work' + count' ≤ int + work + count = omega arith in
    let burst : n' * (int' + work' + count') ≤ n * (int + work + count) = mul-le-mul few less in
    (omega arith, omega arith)
cost-milder (Strict int' flip' setup' work' expire' gap') (Bursty n int flip work expire count clear gap) m =
    absurd m.counts.1.1.1.1.1
cost-milder (Bursty n int' flip' work' expire' count' clear' gap') (Strict int flip setup work expire gap) m =
    absurd m.counts.1.1.1.1.1

-- ---- what the answer Rows says of a guard

-- Nothing is refused, so both rows are in range.
unrefused-inside : (g : Guard) → guard_refusal g ≡ 0 → rows_outside (interrupt_cost g) (timer_cost g) (gap_of g) ≡ false
unrefused-inside g e = go (burst_outside g) (rows_outside (interrupt_cost g) (timer_cost g) (gap_of g)) refl (sym (refusal_is g) ∙ e)
  where
    go : (b c : Bool) → rows_outside (interrupt_cost g) (timer_cost g) (gap_of g) ≡ c → ◌≡◌ {A = ℕ} (pick b 14 (pick c 3 0)) 0
        → rows_outside (interrupt_cost g) (timer_cost g) (gap_of g) ≡ false
    go true c is zero = absurd (omega arith)
    go false true is zero = absurd (omega arith)
    go false false is zero = is

-- The costs and the period are the guard's own.
pub record Costs (g : Guard) (a b p : ℕ) : Type 0 where
  pub interrupt : a ≡ interrupt_cost g
  pub timer : b ≡ timer_cost g
  pub period : p ≡ gap_of g
  pub fair : FairRow (handler_row a p) × FairRow (handler_row b p)

pub rows-cost : (g : Guard) (a b p : ℕ) → RowsSay g (rows_told a b p) → Costs g a b p
unfolding figures figures_by
rows-cost g a b p says =
    let none : guard_refusal g ≡ 0 = sym (ap (λ (f : Figures). f.code) says.figured) in
    let is : figures (rows_told a b p) ≡ figures_by 0 g = says.figured ∙ ap (λ (k : ℕ). figures_by k g) none in
    let interrupt : a ≡ interrupt_cost g = ap (λ (f : Figures). f.interrupt) is in
    let timer : b ≡ timer_cost g = ap (λ (f : Figures). f.timer) is in
    let period : p ≡ gap_of g = ap (λ (f : Figures). f.period) is in
    record {
      interrupt = interrupt;
      timer = timer;
      period = period;
      fair = rw (interrupt, timer, period) (rows-fair (interrupt_cost g) (timer_cost g) (gap_of g) (unrefused-inside g none));
    }
