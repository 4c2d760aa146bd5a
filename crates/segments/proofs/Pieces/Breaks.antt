-- What the tests of a piece find broken is broken.
use mathlib.Core.List.{List}
use mathlib.Core.Logic.{◌⊎◌, inl, inr}
use mathlib.Core.Path.{◌≡◌, refl, ap, ◌∙◌}
use native.Mathlib.Nat.{mul-suc, mul_comm, lt-div-mul-add}
use native.Mathlib.Omega.{arith}
use Prim.Native.Nat.{ℕ, suc, ◌+◌, ◌-◌, ◌*◌, ◌/◌, ◌≤◌, ◌<◌}
use Rattle.demand.specs.Rows.{Row, row_at, Positive, Valid}
use Rattle.demand.proofs.Divide.{jobs, le-or-lt}
use Rattle.segments.specs.Given.{Who, nobody, task, handler, same, to_task, to_handler, task_ticks, handler_ticks, work_by}
use Rattle.segments.specs.Inside.{due_after, wait_tick, late_clock}
use Rattle.segments.specs.Rules.{Accepted, Broken, unfinished, unowed-task, unowed-handler, waiting}
use Rattle.segments.proofs.Accepting.{is_handler, not-handler}
use Rattle.segments.proofs.Pieces.Counts.{Steady, ticks-mono, task-rests-at, task-runs-at, handler-rests-at, handler-runs-at}
use Rattle.segments.proofs.Pieces.OneRow.{waits-iff, Busy}
use Rattle.segments.proofs.Pieces.Piece.{positive-at}

module _ (ts hs : List Row) (vt : Valid ts) (ph : Positive hs) (σ : ℕ → Who) (a b : ℕ) where
  same-one : (i : ℕ) → same i i ≡ 1
  same-one i = omega arith

  misses : (w : Who) (j : ℕ) → is_handler w ≡ 0 → to_handler w j ≡ 0
  misses nobody j e = refl
  misses (task i) j e = refl
  misses (handler i) j e = absurd (omega arith)

  -- A handler waits, where none runs.
  pub wait-breaks : (w : Who) → Steady σ w a b → is_handler w ≡ 0 → (j t L : ℕ) → 0 < (row_at hs j).cost
      → wait_tick (row_at hs j) (handler_ticks σ j a) ≤ t → a ≤ t → t < b → t < L → Broken ts hs σ L t
  wait-breaks w steady off j t L some from l h m =
      waiting j m (λ i. not-handler (σ t) i (ap is_handler (steady t l h) ∙ off))
      (rw (handler-rests-at σ w a b steady j t l (omega arith) (misses w j off)) (go (positive-at hs ph j)))
    where
      go : (0 < (row_at hs j).period) ⊎ ((row_at hs j).cost ≡ 0) → handler_ticks σ j a < work_by (row_at hs j) (suc t)
      go (inl pos) = (waits-iff (row_at hs j).cost (row_at hs j).period (handler_ticks σ j a) t some pos).1 from
      go (inr z) = absurd (omega arith)

  -- The row that runs is not owed work.
  pub task-breaks : (i : ℕ) → Steady σ (task i) a b → (t L : ℕ) → ¬ Busy (row_at ts i).cost (row_at ts i).period (task_ticks σ i a) a t
      → a ≤ t → t < b → t < L → Broken ts hs σ L t
  task-breaks i steady t L idle l h m =
      unowed-task i m (steady t l h)
      (rw (task-runs-at σ (task i) a b steady i t l (omega arith) (same-one i))
      (go (le-or-lt (work_by (row_at ts i) (suc t)) (task_ticks σ i a + (t - a)))))
    where
      go : (work_by (row_at ts i) (suc t) ≤ task_ticks σ i a + (t - a)) ⊎ (task_ticks σ i a + (t - a) < work_by (row_at ts i) (suc t))
          → work_by (row_at ts i) (suc t) ≤ task_ticks σ i a + (t - a)
      go (inl q) = q
      go (inr q) = absurd (idle q)

  -- The same of a handler.
  pub handler-breaks : (i : ℕ) → Steady σ (handler i) a b → (t L : ℕ)
      → ¬ Busy (row_at hs i).cost (row_at hs i).period (handler_ticks σ i a) a t → a ≤ t → t < b → t < L → Broken ts hs σ L t
  handler-breaks i steady t L idle l h m =
      unowed-handler i m (steady t l h)
      (rw (handler-runs-at σ (handler i) a b steady i t l (omega arith) (same-one i))
      (go (le-or-lt (work_by (row_at hs i) (suc t)) (handler_ticks σ i a + (t - a)))))
    where
      go : (work_by (row_at hs i) (suc t) ≤ handler_ticks σ i a + (t - a)) ⊎ (handler_ticks σ i a + (t - a) < work_by (row_at hs i) (suc t))
          → work_by (row_at hs i) (suc t) ≤ handler_ticks σ i a + (t - a)
      go (inl q) = q
      go (inr q) = absurd (idle q)

  -- A task that rests has a job that is not complete.
  over-cost : (g c : ℕ) → 0 < c → g < c * suc (g / c)
  over-cost g c pos = omega (arith, lt-div-mul-add {a = g} pos, mul-suc c (g / c), mul_comm c (g / c))

  -- Its deadline is the tick at which the rule is broken.
  pub rest-breaks : (w : Who) → Steady σ w a b → (i L : ℕ) → to_task w i ≡ 0 → 0 < (row_at ts i).cost
      → a ≤ late_clock (row_at ts i) (task_ticks σ i a) → late_clock (row_at ts i) (task_ticks σ i a) ≤ b → b ≤ L
      → Broken ts hs σ L (late_clock (row_at ts i) (task_ticks σ i a))
  rest-breaks w steady i L off some l h m =
      unfinished i (task_ticks σ i a / (row_at ts i).cost) (omega arith) refl
      (rw (task-rests-at σ w a b steady i (late_clock (row_at ts i) (task_ticks σ i a)) l h off)
      (over-cost (task_ticks σ i a) (row_at ts i).cost some))

  -- And that is behind a, if all was accepted up to a.
  pub late-behind : (i : ℕ) → 0 < (row_at ts i).cost → Accepted ts hs σ a → a < late_clock (row_at ts i) (task_ticks σ i a)
  late-behind i some acc = go (le-or-lt D a)
    where
      D : ℕ
      D = late_clock (row_at ts i) (task_ticks σ i a)

      go : (D ≤ a) ⊎ (a < D) → a < D
      go (inr h) = h
      go (inl h) =
          let s : D + (a - D) ≡ a = omega arith in
          let m : task_ticks σ i D ≤ task_ticks σ i a = rw s at (ticks-mono σ i D (a - D)) in
          absurd (omega
          (arith, m, acc.clocks D h i (task_ticks σ i a / (row_at ts i).cost) refl, over-cost (task_ticks σ i a) (row_at ts i).cost some))

  -- The task that runs does not meet its first deadline behind a.
  pub run-breaks : (i L : ℕ) → Steady σ (task i) a b → a ≤ due_after (row_at ts i).deadline (row_at ts i).period a
      → due_after (row_at ts i).deadline (row_at ts i).period a ≤ b → b ≤ L
      → task_ticks σ i a + (due_after (row_at ts i).deadline (row_at ts i).period a - a)
      < (row_at ts i).cost * suc (jobs a (row_at ts i).deadline (row_at ts i).period)
      → Broken ts hs σ L (due_after (row_at ts i).deadline (row_at ts i).period a)
  run-breaks i L steady l h m short =
      unfinished i (jobs a (row_at ts i).deadline (row_at ts i).period) (omega arith) refl
      (rw (task-runs-at σ (task i) a b steady i (due_after (row_at ts i).deadline (row_at ts i).period a) l h (same-one i)) short)
