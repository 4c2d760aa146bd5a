-- A piece that starts at tick a: what its tests say of the ticks and the clocks in it.
-- WaitsFrom, BusyTo, Meets no handler waits before x; whoever runs is owed work up to x; the task that runs meets its deadlines before
-- y
--   Clear ts hs g_t g_h w a x y  no rule is broken in a tick before x or at a clock before y
use mathlib.Core.List.{List, [], ◌∷◌}
use mathlib.Core.Logic.{◌⊎◌, inl, inr}
use mathlib.Core.Path.{◌≡◌, refl, sym, subst}
use native.Mathlib.Nat.{mul_comm, mul-le-mul_right, div-lt_iff_lt-mul}
use native.Mathlib.Omega.{arith}
use Prim.Native.Nat.{ℕ, zero, suc, ◌+◌, ◌-◌, ◌*◌, ◌/◌, ◌≤◌, ◌<◌, max}
use Rattle.demand.specs.Rows.{Row, row_at, Positive, Sound, Valid}
use Rattle.demand.proofs.Divide.{jobs, le-or-lt}
use Rattle.segments.specs.Given.{Who, nobody, task, handler, same, to_task, to_handler, task_ticks, handler_ticks, work_by}
use Rattle.segments.specs.Inside.{due_after, wait_tick, late_clock}
use Rattle.segments.specs.Rules.{Owed, NoneWaits, First, Right, InTime, Accepted, Broken, FirstBroken}
use Rattle.segments.proofs.Accepting.{nothing-broken}
use Rattle.segments.proofs.Pieces.Counts.{Steady, task-bit, ticks-le, task-rests-at, task-runs-at, handler-rests-at, handler-runs-at}
use Rattle.segments.proofs.Pieces.OneRow.{waits-iff, jobs-lt, run-in-time, Busy}

-- A row of the table, or none.
pub valid-at : (rs : List Row) → Valid rs → (i : ℕ) → Sound (row_at rs i) ⊎ ((row_at rs i).cost ≡ 0)
valid-at [] v i = inr refl
valid-at (r ∷ rs) v zero = inl v.0
valid-at (r ∷ rs) v (suc i) = valid-at rs v.1 i

-- The same of handlers.
pub positive-at : (rs : List Row) → Positive rs → (i : ℕ) → (0 < (row_at rs i).period) ⊎ ((row_at rs i).cost ≡ 0)
positive-at [] v i = inr refl
positive-at (r ∷ rs) v zero = inl v.0
positive-at (r ∷ rs) v (suc i) = positive-at rs v.1 i

-- No handler waits before x: but where a handler runs, all may.
abbrev pub WaitsFrom : List Row → (ℕ → ℕ) → Who → ℕ → ℕ → Type 0
WaitsFrom hs g_h nobody a x = (j : ℕ) → 0 < (row_at hs j).cost → x ≤ max a (wait_tick (row_at hs j) (g_h j))
WaitsFrom hs g_h (task i) a x = (j : ℕ) → 0 < (row_at hs j).cost → x ≤ max a (wait_tick (row_at hs j) (g_h j))
WaitsFrom hs g_h (handler j) a x = Unit

-- Whoever runs is owed work up to x.
abbrev pub BusyTo : List Row → List Row → (ℕ → ℕ) → (ℕ → ℕ) → Who → ℕ → ℕ → Type 0
BusyTo ts hs g_t g_h nobody a x = Unit
BusyTo ts hs g_t g_h (task i) a x = (t : ℕ) → a ≤ t → t < x → Busy (row_at ts i).cost (row_at ts i).period (g_t i) a t
BusyTo ts hs g_t g_h (handler j) a x = (t : ℕ) → a ≤ t → t < x → Busy (row_at hs j).cost (row_at hs j).period (g_h j) a t

-- The task that runs meets its first deadline behind a, or that is not before y.
abbrev pub Meets : Row → ℕ → ℕ → ℕ → Type 0
Meets r g a y =
    (y ≤ due_after r.deadline r.period a) ⊎
    (r.cost * suc (jobs a r.deadline r.period) ≤ g + (due_after r.deadline r.period a - a))

-- What the tests of a piece from a say, from the ticks given before a: no rule is broken in a tick before x or at a clock before y.
pub record Clear (ts hs : List Row) (g_t g_h : ℕ → ℕ) (w : Who) (a x y : ℕ) : Type 0 where
  pub waits : WaitsFrom hs g_h w a x
  pub busy : BusyTo ts hs g_t g_h w a x
  pub rests : (i : ℕ) → to_task w i ≡ 0 → 0 < (row_at ts i).cost → y ≤ late_clock (row_at ts i) (g_t i)
  pub meets : (i : ℕ) → w ≡ task i → Meets (row_at ts i) (g_t i) a y

module _ (ts hs : List Row) (vt : Valid ts) (ph : Positive hs) (σ : ℕ → Who) (w : Who) (a b : ℕ) (steady : Steady σ w a b) where
  abbrev g_t : ℕ → ℕ
  g_t i = task_ticks σ i a

  abbrev g_h : ℕ → ℕ
  g_h j = handler_ticks σ j a

  -- A handler that waits.
  none-waits : (t x : ℕ) → a ≤ t → t < b → t < x → ((j : ℕ) → to_handler w j ≡ 0)
      → ((j : ℕ) → 0 < (row_at hs j).cost → x ≤ max a (wait_tick (row_at hs j) (g_h j))) → NoneWaits hs σ t
  none-waits t x l h m off from j =
      rw (handler-rests-at σ w a b steady j t l (omega arith) (off j)) (go (row_at hs j).cost refl (positive-at hs ph j) (from j))
    where
      go : (c : ℕ) → (row_at hs j).cost ≡ c → (0 < (row_at hs j).period) ⊎ ((row_at hs j).cost ≡ 0)
          → (0 < (row_at hs j).cost → x ≤ max a (wait_tick (row_at hs j) (g_h j))) → work_by (row_at hs j) (suc t) ≤ g_h j
      go zero e s f = rw e (omega arith)
      go (suc c) e (inr z) f = absurd (omega arith)
      go (suc c) e (inl pos) f = split (le-or-lt (work_by (row_at hs j) (suc t)) (g_h j))
        where
          split : (work_by (row_at hs j) (suc t) ≤ g_h j) ⊎ (g_h j < work_by (row_at hs j) (suc t)) → work_by (row_at hs j) (suc t) ≤ g_h j
          split (inl k) = k
          split (inr k) =
              absurd (omega (arith, (waits-iff (row_at hs j).cost (row_at hs j).period (g_h j) t (omega arith) pos).0 k, f (omega arith)))

  good : (t : ℕ) → σ t ≡ w → Owed ts hs σ t w → First hs σ t w → Right ts hs σ t
  good t e o f = record { owed = subst (λ (v : Who). Owed ts hs σ t v) (sym e) o; first = subst (λ (v : Who). First hs σ t v) (sym e) f }

-- (The row that runs is known from here on.)
module _ (ts hs : List Row) (vt : Valid ts) (ph : Positive hs) (σ : ℕ → Who) (a b : ℕ) where
  same-one : (i : ℕ) → same i i ≡ 1
  same-one i = omega arith

  -- A tick before x is right,
  pub piece-right : (w : Who) → Steady σ w a b → (x y : ℕ) → Clear ts hs (λ i. task_ticks σ i a) (λ j. handler_ticks σ j a) w a x y
      → (t : ℕ) → a ≤ t → t < b → t < x → Right ts hs σ t
  piece-right nobody steady x y c t l h m =
      good ts hs vt ph σ nobody a b steady t (steady t l h) tt (none-waits ts hs vt ph σ nobody a b steady t x l h m (λ j. refl) c.waits)
  piece-right (task i) steady x y c t l h m =
      good ts hs vt ph σ (task i) a b steady t (steady t l h)
      (rw (task-runs-at σ (task i) a b steady i t l (omega arith) (same-one i)) (c.busy t l m))
      (none-waits ts hs vt ph σ (task i) a b steady t x l h m (λ j. refl) c.waits)
  piece-right (handler j) steady x y c t l h m =
      good ts hs vt ph σ (handler j) a b steady t (steady t l h)
      (rw (handler-runs-at σ (handler j) a b steady j t l (omega arith) (same-one j)) (c.busy t l m))
      tt

  -- Work complete at a deadline, of a task that rests and of one that runs.
  rest-in-time : (r : Row) (g k t y : ℕ) → Sound r ⊎ (r.cost ≡ 0) → (0 < r.cost → y ≤ late_clock r g) → t < y
      → k * r.period + r.deadline ≡ t → r.cost * suc k ≤ g
  rest-in-time r g k t y (inr z) f m e = rw z (omega arith)
  rest-in-time r g k t y (inl s) f m e = go r.cost refl (le-or-lt (r.cost * suc k) g)
    where
      go : (c : ℕ) → r.cost ≡ c → (r.cost * suc k ≤ g) ⊎ (g < r.cost * suc k) → r.cost * suc k ≤ g
      go c q (inl h) = h
      go zero q (inr h) =
          let n : g < 0 * suc k = rw q at h in
          absurd (omega (arith, n))
      go (suc c) q (inr h) =
          let l : g / r.cost < suc k = (div-lt_iff_lt-mul {k = r.cost} (omega arith)).1 (omega (arith, mul_comm r.cost (suc k))) in
          let n : g / r.cost * r.period ≤ k * r.period = mul-le-mul_right r.period (omega arith) in
          absurd (omega (arith, f (omega arith)))

  run-meets : (r : Row) (g k t y : ℕ) → Sound r ⊎ (r.cost ≡ 0) → g ≤ a → Meets r g a y → a < t → t < y → k * r.period + r.deadline ≡ t
      → r.cost * suc k ≤ g + (t - a)
  run-meets r g k t y (inr z) low f l m e = rw z (omega arith)
  run-meets r g k t y (inl s) low f l m e =
      let q : jobs a r.deadline r.period ≤ k = jobs-lt k r.deadline r.period a (omega (arith, s)) s.fits (omega arith) in
      go q f
    where
      go : jobs a r.deadline r.period ≤ k → Meets r g a y → r.cost * suc k ≤ g + (t - a)
      go q (inl h) = absurd (omega (arith, mul-le-mul_right r.period q))
      go q (inr h) = rw (← e) (run-in-time r.cost r.period r.deadline g a k (omega (arith, s)) s.fits low h q)

  -- and a clock before y in time.
  pub piece-in-time : (w : Who) → Steady σ w a b → (x y : ℕ) → Clear ts hs (λ i. task_ticks σ i a) (λ j. handler_ticks σ j a) w a x y
      → (t : ℕ) → a < t → t ≤ b → t < y → InTime ts σ t
  piece-in-time w steady x y c t l h m i k e = go (task-bit w i)
    where
      go : (to_task w i ≡ 0) ⊎ ((to_task w i ≡ 1) × (w ≡ task i)) → (row_at ts i).cost * suc k ≤ task_ticks σ i t
      go (inl z) =
          rw (task-rests-at σ w a b steady i t (omega arith) h z)
          (rest-in-time (row_at ts i) (task_ticks σ i a) k t y (valid-at ts vt i) (c.rests i z) m e)
      go (inr z) =
          rw (task-runs-at σ w a b steady i t (omega arith) h z.0)
          (run-meets (row_at ts i) (task_ticks σ i a) k t y (valid-at ts vt i) (ticks-le σ i a) (c.meets i z.1) l m e)

  -- A piece that is clear: accepted up to its end.
  pub piece-accepts : (w : Who) → Steady σ w a b → a ≤ b → Clear ts hs (λ i. task_ticks σ i a) (λ j. handler_ticks σ j a) w a b (suc b)
      → Accepted ts hs σ a → Accepted ts hs σ b
  piece-accepts w steady le c acc =
      record {
        ticks = λ t l. tick t l (le-or-lt a t);
        clocks = λ t l. clock t l (le-or-lt t a);
      }
    where
      tick : (t : ℕ) → t < b → (a ≤ t) ⊎ (t < a) → Right ts hs σ t
      tick t l (inl h) = piece-right w steady b (suc b) c t h l l
      tick t l (inr h) = acc.ticks t h

      clock : (t : ℕ) → t ≤ b → (t ≤ a) ⊎ (a < t) → InTime ts σ t
      clock t l (inl h) = acc.clocks t h
      clock t l (inr h) = piece-in-time w steady b (suc b) c t h l (omega arith)

  -- A piece that is clear up to z, where a rule is broken: broken there first.
  pub piece-first : (w : Who) → Steady σ w a b → (z L : ℕ) → z ≤ b → Clear ts hs (λ i. task_ticks σ i a) (λ j. handler_ticks σ j a) w a z z
      → Accepted ts hs σ a → Broken ts hs σ L z → FirstBroken ts hs σ L z
  piece-first w steady z L le c acc here = record { here = here; before = λ s l. not_yet s l }
    where
      tick : (t : ℕ) → t < z → (a ≤ t) ⊎ (t < a) → Right ts hs σ t
      tick t l (inl h) = piece-right w steady z z c t h (omega arith) l
      tick t l (inr h) = acc.ticks t h

      clock : (t : ℕ) → t < z → (t ≤ a) ⊎ (a < t) → InTime ts σ t
      clock t l (inl h) = acc.clocks t h
      clock t l (inr h) = piece-in-time w steady z z c t h (omega arith) l

      not_yet : (s : ℕ) → s < z → ¬ Broken ts hs σ L s
      not_yet s l = nothing-broken ts hs σ L s (λ h. tick s l (le-or-lt a s)) (λ h. clock s l (le-or-lt s a))
