-- When a schedule is accepted (02, M-110), tick by tick, and where it is not, the first tick at which a rule is broken.
--   Owed ts hs σ t w         at tick t row w is owed work: it was called for more by its arrivals up to t than it was given before t
--   NoneWaits hs σ t         no handler is owed work at tick t
--   First hs σ t w           if w is no handler, none is owed work
--   Right ts hs σ t          tick t breaks no rule: whoever runs is owed work, and a handler runs whenever handler work is owed
--   InTime ts σ t            every job whose deadline is t is complete by t
--   Accepted ts hs σ L       every tick before the span's end L is right, and every job with a deadline within the span is complete by it
--   Broken ts hs σ L t       a rule is broken at t, for a span of L
--   FirstBroken ts hs σ L t  and none before
--   AcceptedExactly          accepted exactly if no rule is broken at any t
use Rattle.std.specs.Prelude.{List, ◌↔◌, ◌≡◌, ℕ, suc, ◌+◌, ◌*◌, ◌≤◌, ◌<◌}
use Rattle.demand.specs.Rows.{Row, row_at}
use Rattle.segments.specs.Given.{Who, nobody, task, handler, task_ticks, handler_ticks, work_by}

abbrev pub Owed : List Row → List Row → (ℕ → Who) → ℕ → Who → Type 0
Owed ts hs σ t nobody = Unit
Owed ts hs σ t (task i) = task_ticks σ i t < work_by (row_at ts i) (suc t)
Owed ts hs σ t (handler j) = handler_ticks σ j t < work_by (row_at hs j) (suc t)

abbrev pub NoneWaits : List Row → (ℕ → Who) → ℕ → Type 0
NoneWaits hs σ t = (j : ℕ) → work_by (row_at hs j) (suc t) ≤ handler_ticks σ j t

-- Handlers may wait behind one another.
abbrev pub First : List Row → (ℕ → Who) → ℕ → Who → Type 0
First hs σ t nobody = NoneWaits hs σ t
First hs σ t (task i) = NoneWaits hs σ t
First hs σ t (handler j) = Unit

pub record Right (ts hs : List Row) (σ : ℕ → Who) (t : ℕ) : Type 0 where
  pub owed : Owed ts hs σ t (σ t)
  pub first : First hs σ t (σ t)

-- The job that arrived at k periods, and all before it.
abbrev pub InTime : List Row → (ℕ → Who) → ℕ → Type 0
InTime ts σ t =
    (i k : ℕ) → k * (row_at ts i).period + (row_at ts i).deadline ≡ t → (row_at ts i).cost * suc k ≤ task_ticks σ i t

pub record Accepted (ts hs : List Row) (σ : ℕ → Who) (L : ℕ) : Type 0 where
  pub ticks : (t : ℕ) → t < L → Right ts hs σ t
  pub clocks : (t : ℕ) → t ≤ L → InTime ts σ t

-- At its deadline t a job is unfinished; or in tick t a row runs that is not owed work, or a handler waits while none runs.
pub data Broken (ts hs : List Row) (σ : ℕ → Who) (L t : ℕ) : Type 0 where
  unfinished : (i k : ℕ) → t ≤ L → k * (row_at ts i).period + (row_at ts i).deadline ≡ t → task_ticks σ i t < (row_at ts i).cost * suc k
      → Broken ts hs σ L t
  unowed-task : (i : ℕ) → t < L → σ t ≡ task i → work_by (row_at ts i) (suc t) ≤ task_ticks σ i t → Broken ts hs σ L t
  unowed-handler : (j : ℕ) → t < L → σ t ≡ handler j → work_by (row_at hs j) (suc t) ≤ handler_ticks σ j t → Broken ts hs σ L t
  waiting : (j : ℕ) → t < L → ((i : ℕ) → ¬ (σ t ≡ handler i)) → handler_ticks σ j t < work_by (row_at hs j) (suc t) → Broken ts hs σ L t

pub record FirstBroken (ts hs : List Row) (σ : ℕ → Who) (L t : ℕ) : Type 0 where
  pub here : Broken ts hs σ L t
  pub before : (s : ℕ) → s < t → ¬ Broken ts hs σ L s

abbrev pub AcceptedExactly : Type 0
AcceptedExactly = (ts hs : List Row) (σ : ℕ → Who) (L : ℕ) → Accepted ts hs σ L ↔ ((t : ℕ) → ¬ Broken ts hs σ L t)
