-- Where every tick is right, no row is given more than it was called for.
--   Low ts hs σ t   no row was given more before t than it was called for by its arrivals before t
use mathlib.Core.List.{List}
use mathlib.Core.Path.{◌≡◌, refl, subst}
use native.Mathlib.Nat.{mul-le-mul_left}
use native.Mathlib.Omega.{arith}
use Prim.Native.Nat.{ℕ, zero, suc, ◌+◌, ◌≤◌, ◌<◌}
use Rattle.demand.specs.Rows.{Row, row_at}
use Rattle.demand.proofs.Divide.{ceil-mono}
use Rattle.segments.specs.Given.{Who, nobody, task, handler, same, to_task, to_handler, task_ticks, handler_ticks, work_by}
use Rattle.segments.specs.Rules.{Owed, Right}

-- A longer stretch calls for no less.
pub work-mono : (r : Row) {m n : ℕ} → m ≤ n → work_by r m ≤ work_by r n
work-mono r h = mul-le-mul_left r.cost (ceil-mono r.period h)

work-next : (r : Row) (t : ℕ) → work_by r t ≤ work_by r (suc t)
work-next r t = work-mono r {m = t} {n = suc t} (omega arith)

abbrev pub Low : List Row → List Row → (ℕ → Who) → ℕ → Type 0
Low ts hs σ t = ((i : ℕ) → task_ticks σ i t ≤ work_by (row_at ts i) t) × ((j : ℕ) → handler_ticks σ j t ≤ work_by (row_at hs j) t)

-- One row: it has g i ticks, and one more where it is the row k that runs, and is owed work.
low-row : (rs : List Row) (g : ℕ → ℕ) (t k i : ℕ) → g k < work_by (row_at rs k) (suc t) → g i ≤ work_by (row_at rs i) t
    → g i + same k i ≤ work_by (row_at rs i) (suc t)
low-row rs g t k i o h = go (same k i) refl
  where
    go : (s : ℕ) → same k i ≡ s → g i + same k i ≤ work_by (row_at rs i) (suc t)
    go zero e = omega (arith, work-next (row_at rs i) t)
    go (suc s) e =
        let here : k ≡ i = omega arith in
        let q : g i < work_by (row_at rs i) (suc t) = subst (λ (m : ℕ). g m < work_by (row_at rs m) (suc t)) here o in
        omega arith

module _ (ts hs : List Row) (σ : ℕ → Who) where
  -- A tick more, of a task ..
  low-task : (t i : ℕ) (w : Who) → Owed ts hs σ t w → task_ticks σ i t ≤ work_by (row_at ts i) t
      → task_ticks σ i t + to_task w i ≤ work_by (row_at ts i) (suc t)
  low-task t i nobody o h = omega (arith, work-next (row_at ts i) t)
  low-task t i (handler j) o h = omega (arith, work-next (row_at ts i) t)
  low-task t i (task k) o h = low-row ts (λ m. task_ticks σ m t) t k i o h

  -- .. and of a handler.
  low-handler : (t i : ℕ) (w : Who) → Owed ts hs σ t w → handler_ticks σ i t ≤ work_by (row_at hs i) t
      → handler_ticks σ i t + to_handler w i ≤ work_by (row_at hs i) (suc t)
  low-handler t i nobody o h = omega (arith, work-next (row_at hs i) t)
  low-handler t i (task j) o h = omega (arith, work-next (row_at hs i) t)
  low-handler t i (handler k) o h = low-row hs (λ m. handler_ticks σ m t) t k i o h

  low-next : (t : ℕ) → Owed ts hs σ t (σ t) → Low ts hs σ t → Low ts hs σ (suc t)
  unfolding task_ticks handler_ticks
  low-next t o b = (λ i. low-task t i (σ t) o (b.0 i), λ j. low-handler t j (σ t) o (b.1 j))

  low-zero : Low ts hs σ 0
  unfolding task_ticks handler_ticks
  low-zero = (λ i. omega arith, λ j. omega arith)

  -- So at every clock up to which all ticks are right.
  pub low : (L : ℕ) → ((t : ℕ) → t < L → Right ts hs σ t) → (t : ℕ) → t ≤ L → Low ts hs σ t
  low L right zero l = low-zero
  low L right (suc t) l = low-next t (right t l).owed (low L right t (omega arith))
