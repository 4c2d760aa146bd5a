-- Ticks given over a piece, a stretch of ticks that all go to one row, or to none.
--   Steady σ w a b   all ticks from a to b go to w
use mathlib.Core.Logic.{◌⊎◌, inl, inr}
use mathlib.Core.Path.{◌≡◌, refl, ap, subst}
use native.Mathlib.Nat.{add-zero, add-suc}
use native.Mathlib.Omega.{arith}
use Prim.Native.Nat.{ℕ, zero, suc, ◌+◌, ◌-◌, ◌≤◌, ◌<◌}
use Rattle.machine.specs.Machine.{share}
use Rattle.segments.specs.Given.{Who, nobody, task, handler, same, to_task, to_handler, task_ticks, handler_ticks}

-- All ticks from a to b go to w.
abbrev pub Steady : (ℕ → Who) → Who → ℕ → ℕ → Type 0
Steady σ w a b = (t : ℕ) → a ≤ t → t < b → σ t ≡ w

-- A tick goes to the task at i, or not.
pub task-bit : (w : Who) (i : ℕ) → (to_task w i ≡ 0) ⊎ ((to_task w i ≡ 1) × (w ≡ task i))
task-bit nobody i = inl refl
task-bit (handler j) i = inl refl
task-bit (task j) i = go (same j i) refl
  where
    go : (s : ℕ) → same j i ≡ s → (same j i ≡ 0) ⊎ ((same j i ≡ 1) × (task j ≡ task i))
    go zero e = inl e
    go (suc s) e = inr (omega arith, ap task (omega arith))

module _ (σ : ℕ → Who) where
  -- Nobody is given more ticks than there were.
  pub ticks-le : (i t : ℕ) → task_ticks σ i t ≤ t
  unfolding task_ticks
  ticks-le i zero = omega arith
  ticks-le i (suc t) = go (task-bit (σ t) i) (ticks-le i t)
    where
      go : (to_task (σ t) i ≡ 0) ⊎ ((to_task (σ t) i ≡ 1) × (σ t ≡ task i)) → task_ticks σ i t ≤ t → task_ticks σ i t + to_task (σ t) i ≤ suc t
      go (inl e) ih = omega arith
      go (inr e) ih = omega (arith, e.0)

  -- Ticks that were given stay given.
  pub ticks-mono : (i s k : ℕ) → task_ticks σ i s ≤ task_ticks σ i (s + k)
  unfolding task_ticks
  ticks-mono i s zero = rw (add-zero s) (omega arith)
  ticks-mono i s (suc k) = rw (add-suc s k) (omega (arith, ticks-mono i s k))

  module _ (w : Who) (a b : ℕ) (steady : Steady σ w a b) where
    task-rests : (i k : ℕ) → a + k ≤ b → to_task w i ≡ 0 → task_ticks σ i (a + k) ≡ task_ticks σ i a
    unfolding task_ticks
    task-rests i zero l z = rw (add-zero a)
    task-rests i (suc k) l z =
        rw (add-suc a k)
        (omega (arith, task-rests i k (omega arith) z, ap (λ (v : Who). to_task v i) (steady (a + k) (omega arith) (omega arith))))

    task-runs : (i k : ℕ) → a + k ≤ b → to_task w i ≡ 1 → task_ticks σ i (a + k) ≡ task_ticks σ i a + k
    unfolding task_ticks
    task-runs i zero l z = rw (add-zero a) (omega arith)
    task-runs i (suc k) l z =
        rw (add-suc a k)
        (omega (arith, task-runs i k (omega arith) z, ap (λ (v : Who). to_task v i) (steady (a + k) (omega arith) (omega arith))))

    handler-rests : (i k : ℕ) → a + k ≤ b → to_handler w i ≡ 0 → handler_ticks σ i (a + k) ≡ handler_ticks σ i a
    unfolding handler_ticks
    handler-rests i zero l z = rw (add-zero a)
    handler-rests i (suc k) l z =
        rw (add-suc a k)
        (omega (arith, handler-rests i k (omega arith) z, ap (λ (v : Who). to_handler v i) (steady (a + k) (omega arith) (omega arith))))

    handler-runs : (i k : ℕ) → a + k ≤ b → to_handler w i ≡ 1 → handler_ticks σ i (a + k) ≡ handler_ticks σ i a + k
    unfolding handler_ticks
    handler-runs i zero l z = rw (add-zero a) (omega arith)
    handler-runs i (suc k) l z =
        rw (add-suc a k)
        (omega (arith, handler-runs i k (omega arith) z, ap (λ (v : Who). to_handler v i) (steady (a + k) (omega arith) (omega arith))))

    -- The same at t.
    pub task-rests-at : (i t : ℕ) → a ≤ t → t ≤ b → to_task w i ≡ 0 → task_ticks σ i t ≡ task_ticks σ i a
    task-rests-at i t l h z = let e : a + (t - a) ≡ t = omega arith in rw e at (task-rests i (t - a) (omega arith) z)

    -- The task that runs gains every tick.
    pub task-runs-at : (i t : ℕ) → a ≤ t → t ≤ b → to_task w i ≡ 1 → task_ticks σ i t ≡ task_ticks σ i a + (t - a)
    task-runs-at i t l h z =
        let e : a + (t - a) ≡ t = omega arith in subst (λ (m : ℕ). task_ticks σ i m ≡ task_ticks σ i a + (t - a)) e
        (task-runs i (t - a) (omega arith) z)

    -- A handler that rests gains none.
    pub handler-rests-at : (i t : ℕ) → a ≤ t → t ≤ b → to_handler w i ≡ 0 → handler_ticks σ i t ≡ handler_ticks σ i a
    handler-rests-at i t l h z = let e : a + (t - a) ≡ t = omega arith in rw e at (handler-rests i (t - a) (omega arith) z)

    -- The one that runs gains every tick.
    pub handler-runs-at : (i t : ℕ) → a ≤ t → t ≤ b → to_handler w i ≡ 1 → handler_ticks σ i t ≡ handler_ticks σ i a + (t - a)
    handler-runs-at i t l h z =
        let e : a + (t - a) ≡ t = omega arith in subst (λ (m : ℕ). handler_ticks σ i m ≡ handler_ticks σ i a + (t - a)) e
        (handler-runs i (t - a) (omega arith) z)

-- ---- the counts that a loop carries

module _ (σ : ℕ → Who) (w : Who) (a b : ℕ) (steady : Steady σ w a b) (le : a ≤ b) where
  -- What a piece adds to the ticks of a task,
  pub task-next : (i : ℕ) → task_ticks σ i b ≡ task_ticks σ i a + share (to_task w i) (b - a)
  task-next i = go (task-bit w i)
    where
      go : (to_task w i ≡ 0) ⊎ ((to_task w i ≡ 1) × (w ≡ task i)) → task_ticks σ i b ≡ task_ticks σ i a + share (to_task w i) (b - a)
      go (inl z) = rw z (omega (arith, task-rests-at σ w a b steady i b le (omega arith) z))
      go (inr z) = rw z.0 (task-runs-at σ w a b steady i b le (omega arith) z.0)

  -- and of a handler.
  pub handler-next : (i : ℕ) → handler_ticks σ i b ≡ handler_ticks σ i a + share (to_handler w i) (b - a)
  handler-next i = go (to_handler w i) refl (bit w)
    where
      bit : (v : Who) → to_handler v i ≤ 1
      bit nobody = omega arith
      bit (task j) = omega arith
      bit (handler j) = omega arith

      go : (n : ℕ) → to_handler w i ≡ n → n ≤ 1 → handler_ticks σ i b ≡ handler_ticks σ i a + share n (b - a)
      go zero z l = omega (arith, handler-rests-at σ w a b steady i b le (omega arith) z)
      go (suc n) z l = handler-runs-at σ w a b steady i b le (omega arith) (omega arith)
