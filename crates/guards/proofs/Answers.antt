-- Answers that meet the promise, and that it allows one answer only.
use mathlib.Core.Bool.{Bool, true, false, ◌||◌}
use mathlib.Core.Path.{◌≡◌, refl, sym, ◌∙◌}
use native.Mathlib.Nat.{mul-le-mul}
use native.Mathlib.Omega.{arith}
use borrow.Author.Tests.{ltb-false}
use lib.Dec.{eqb, ltb}
use Prim.Native.Nat.{ℕ, ◌*◌, ◌≤◌, ◌<◌}
use Rattle.std.specs.Prelude.{Result, Err}
use Rattle.demand.specs.Numbered.{answered}
use Rattle.demand.specs.Refusals.{row_outside, FairRow}
use Rattle.demand.specs.Tests.{pick, first_refusal}
use Rattle.demand.proofs.Refusals.{neither, fair-row}
use Rattle.demand.specs.declared.refusal.Refusal.{Refusal}
use Rattle.demand.specs.declared.refusal.Refusal.TheVariants.{RowOutOfRange, BurstOutOfRange}
use Rattle.guards.specs.Answers.{figures, figures_by, RowsSay, RowsUnique, rows_told}
use Rattle.guards.specs.Guards.{interrupt_cost, timer_cost, gap_of, handler_row}
use Rattle.guards.specs.Guards.{burst_most, burst_outside, rows_outside, guard_tests, guard_refusal}
use Rattle.guards.specs.Inside.{rows_by}
use Rattle.guards.specs.declared.Guard.{Guard}
use Rattle.guards.specs.declared.Pair.{Pair}

-- ---- the tests of a guard

-- Where neither row is outside both are in range,
pub rows-fair : (i t p : ℕ) → rows_outside i t p ≡ false → FairRow (handler_row i p) × FairRow (handler_row t p)
rows-fair i t p e =
    let both = neither (row_outside (handler_row i p)) (row_outside (handler_row t p)) e in
    (fair-row (handler_row i p) both.0, fair-row (handler_row t p) both.1)

-- and that is what is answered; else 3 is.
pub inside-rows : (i t p : ℕ) → rows_outside i t p ≡ false → rows_told i t p ≡ rows_by i t p
unfolding rows_by
inside-rows i t p e = rw e

pub outside-rows : (i t p : ℕ) → rows_outside i t p ≡ true → Err RowOutOfRange ≡ rows_by i t p
unfolding rows_by
outside-rows i t p e = rw e

-- 14, then 3.
pub refusal_is : (g : Guard) → guard_refusal g ≡ pick (burst_outside g) 14 (pick (rows_outside (interrupt_cost g) (timer_cost g) (gap_of g)) 3 0)
unfolding guard_refusal guard_tests first_refusal
refusal_is g = refl

-- A burst in range is of at most 1,000 interrupts, each of three counts below 2^32.
pub burst-small : (n each : ℕ) → (eqb n 0 || ltb burst_most n) ≡ false → each < 12884901888 → n * each ≤ 12884901888000
burst-small n each e small =
    let few : n ≤ burst_most = ltb-false burst_most n (neither (eqb n 0) (ltb burst_most n) e).1 in
    let less : each ≤ 12884901888 = omega arith in
    let most : n * each ≤ 1000 * 12884901888 = mul-le-mul few less in
    omega arith

-- ---- the answer

-- With its burst out of range a guard is refused by 14,
pub burst-says : (g : Guard) → burst_outside g ≡ true → RowsSay g (Err BurstOutOfRange)
unfolding figures figures_by answered
burst-says g e =
    let number : guard_refusal g ≡ 14 = refusal_is g ∙ rw e in
    record { answer = rw number; figured = rw number }

-- else it has its rows, or 3.
pub rows-say : (g : Guard) → burst_outside g ≡ false → RowsSay g (rows_by (interrupt_cost g) (timer_cost g) (gap_of g))
unfolding figures figures_by answered rows_by
rows-say g e = go (rows_outside (interrupt_cost g) (timer_cost g) (gap_of g)) refl
  where
    go : (b : Bool) → rows_outside (interrupt_cost g) (timer_cost g) (gap_of g) ≡ b
        → RowsSay g (pick b (Err RowOutOfRange) (rows_told (interrupt_cost g) (timer_cost g) (gap_of g)))
    go true out = let number : guard_refusal g ≡ 3 = refusal_is g ∙ rw (e, out) in record { answer = rw number; figured = rw number }
    go false inside = let number : guard_refusal g ≡ 0 = refusal_is g ∙ rw (e, inside) in record { answer = rw number; figured = rw number }

-- The same from the figures that the code has in hand.
pub rows-say-read : (g : Guard) (i t p : ℕ) {r : Result Pair Refusal} → burst_outside g ≡ false
    → i ≡ interrupt_cost g → t ≡ timer_cost g → p ≡ gap_of g → r ≡ rows_by i t p → RowsSay g r
rows-say-read g i t p e is-i is-t is-p is = rw (is, is-i, is-t, is-p) (rows-say g e)

-- Two answers that the promise allows are equal.
pub rows-unique : RowsUnique
rows-unique g r s a b = a.answer ∙ sym b.answer
