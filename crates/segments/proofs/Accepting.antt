-- Accepted is that no rule is broken, and schedules that are the same up to the span are judged the same.
use mathlib.Core.List.{List}
use mathlib.Core.Logic.{◌⊎◌, inl, inr}
use mathlib.Core.Path.{◌≡◌, refl, ap, subst}
use native.Mathlib.Omega.{arith}
use Prim.Native.Nat.{ℕ, zero, suc, ◌*◌, ◌≤◌, ◌<◌}
use Rattle.demand.specs.Rows.{Row, row_at}
use Rattle.demand.proofs.Divide.{le-or-lt}
use Rattle.segments.specs.Given.{Who, nobody, task, handler, to_task, to_handler, task_ticks, handler_ticks, work_by}
use Rattle.segments.specs.Rules.{Owed, NoneWaits, First, Right, InTime, Accepted}
use Rattle.segments.specs.Rules.{Broken, unfinished, unowed-task, unowed-handler, waiting, FirstBroken, AcceptedExactly}

-- Where no handler runs, none waits.
first-not : (hs : List Row) (σ : ℕ → Who) (t : ℕ) (w : Who) → σ t ≡ w → ((i : ℕ) → ¬ (σ t ≡ handler i)) → First hs σ t w → NoneWaits hs σ t
first-not hs σ t nobody e n f = f
first-not hs σ t (task i) e n f = f
first-not hs σ t (handler j) e n f = absurd (n j e)

-- At t no rule is broken: what was to be right is.
pub nothing-broken : (ts hs : List Row) (σ : ℕ → Who) (L t : ℕ) → (t < L → Right ts hs σ t) → (t ≤ L → InTime ts σ t) → ¬ Broken ts hs σ L t
nothing-broken ts hs σ L t r c (unfinished i k l e b) = omega (arith, c l i k e)
nothing-broken ts hs σ L t r c (unowed-task i l e b) =
    let o : Owed ts hs σ t (task i) = subst (λ (w : Who). Owed ts hs σ t w) e (r l).owed in omega arith
nothing-broken ts hs σ L t r c (unowed-handler j l e b) =
    let o : Owed ts hs σ t (handler j) = subst (λ (w : Who). Owed ts hs σ t w) e (r l).owed in omega arith
nothing-broken ts hs σ L t r c (waiting j l n b) = omega (arith, first-not hs σ t (σ t) refl n (r l).first j)

-- Accepted: nothing is broken.
pub accepted-sound : (ts hs : List Row) (σ : ℕ → Who) (L t : ℕ) → Accepted ts hs σ L → ¬ Broken ts hs σ L t
accepted-sound ts hs σ L t a = nothing-broken ts hs σ L t (a.ticks t) (a.clocks t)

-- 1 for a handler, else 0.
abbrev pub is_handler : Who → ℕ
is_handler nobody = 0
is_handler (task i) = 0
is_handler (handler j) = 1

-- Whoever is no handler is not the handler at i.
pub not-handler : (w : Who) (i : ℕ) → is_handler w ≡ 0 → ¬ (w ≡ handler i)
not-handler w i e f = omega (arith, ap is_handler f)

-- And the reverse: what is broken nowhere is accepted.
pub accepted-complete : (ts hs : List Row) (σ : ℕ → Who) (L : ℕ) → ((t : ℕ) → ¬ Broken ts hs σ L t) → Accepted ts hs σ L
accepted-complete ts hs σ L none =
    record {
      ticks = λ t l. record { owed = owe t l (σ t) refl; first = fst t l (σ t) refl };
      clocks = λ t l i k e. at_most (le-or-lt ((row_at ts i).cost * suc k) (task_ticks σ i t)) (λ b. none t (unfinished i k l e b));
    }
  where
    at_most : {a b : ℕ} → (a ≤ b) ⊎ (b < a) → ¬ (b < a) → a ≤ b
    at_most (inl h) n = h
    at_most (inr h) n = absurd (n h)

    above : {a b : ℕ} → (a ≤ b) ⊎ (b < a) → ¬ (a ≤ b) → b < a
    above (inl h) n = absurd (n h)
    above (inr h) n = h

    owe : (t : ℕ) → t < L → (w : Who) → σ t ≡ w → Owed ts hs σ t w
    owe t l nobody e = tt
    owe t l (task i) e = above (le-or-lt (work_by (row_at ts i) (suc t)) (task_ticks σ i t)) (λ b. none t (unowed-task i l e b))
    owe t l (handler j) e = above (le-or-lt (work_by (row_at hs j) (suc t)) (handler_ticks σ j t)) (λ b. none t (unowed-handler j l e b))

    quiet : (t : ℕ) → t < L → is_handler (σ t) ≡ 0 → NoneWaits hs σ t
    quiet t l e j =
        at_most (le-or-lt (work_by (row_at hs j) (suc t)) (handler_ticks σ j t)) (λ b. none t (waiting j l (λ i. not-handler (σ t) i e) b))

    fst : (t : ℕ) → t < L → (w : Who) → σ t ≡ w → First hs σ t w
    fst t l nobody e = quiet t l (ap is_handler e)
    fst t l (task k) e = quiet t l (ap is_handler e)
    fst t l (handler j) e = tt

pub accepted-exactly : AcceptedExactly
accepted-exactly ts hs σ L = (λ a t. accepted-sound ts hs σ L t a, accepted-complete ts hs σ L)

-- A first tick is the only one.
pub first-once : (ts hs : List Row) (σ : ℕ → Who) (L y z : ℕ) → FirstBroken ts hs σ L y → FirstBroken ts hs σ L z → y ≡ z
first-once ts hs σ L y z f g = go (le-or-lt y z) (le-or-lt z y)
  where
    go : (y ≤ z) ⊎ (z < y) → (z ≤ y) ⊎ (y < z) → y ≡ z
    go (inl l) (inl m) = omega arith
    go (inr l) m = absurd (f.before z l g.here)
    go (inl l) (inr m) = absurd (g.before y m f.here)

-- ---- schedules that are the same up to the span

module _ (σ τ : ℕ → Who) (L : ℕ) (same_at : (t : ℕ) → t < L → σ t ≡ τ t) where
  -- give the same ticks to each row,
  pub ticks-same : (t : ℕ) → t ≤ L → ((i : ℕ) → task_ticks τ i t ≡ task_ticks σ i t) × ((i : ℕ) → handler_ticks τ i t ≡ handler_ticks σ i t)
  unfolding task_ticks handler_ticks
  ticks-same zero l = (λ i. refl, λ i. refl)
  ticks-same (suc t) l =
      let q : ((i : ℕ) → task_ticks τ i t ≡ task_ticks σ i t) × ((i : ℕ) → handler_ticks τ i t ≡ handler_ticks σ i t) =
      ticks-same t (omega arith) in (
        λ i. omega (arith, q.0 i, ap (λ (w : Who). to_task w i) (same_at t l)),
        λ i. omega (arith, q.1 i, ap (λ (w : Who). to_handler w i) (same_at t l)),
      )

  module _ (ts hs : List Row) where
    -- owe the same,
    pub owed_same : (t : ℕ) → t < L → (w : Who) → Owed ts hs σ t w → Owed ts hs τ t w
    owed_same t l nobody o = tt
    owed_same t l (task i) o = rw ((ticks-same t (omega arith)).0 i) o
    owed_same t l (handler j) o = rw ((ticks-same t (omega arith)).1 j) o

    -- let the same handlers wait,
    pub first-same : (t : ℕ) → t < L → (w : Who) → First hs σ t w → First hs τ t w
    first-same t l nobody f = λ j. rw ((ticks-same t (omega arith)).1 j) (f j)
    first-same t l (task i) f = λ j. rw ((ticks-same t (omega arith)).1 j) (f j)
    first-same t l (handler j) f = tt

    -- and so are accepted together.
    pub accepted-same : Accepted ts hs σ L → Accepted ts hs τ L
    accepted-same acc =
        record {
          ticks = λ t l.
              record {
                owed = subst (λ (w : Who). Owed ts hs τ t w) (same_at t l) (owed_same t l (σ t) (acc.ticks t l).owed);
                first = subst (λ (w : Who). First hs τ t w) (same_at t l) (first-same t l (σ t) (acc.ticks t l).first);
              };
          clocks = λ t l i k e. rw ((ticks-same t l).0 i) (acc.clocks t l i k e);
        }
