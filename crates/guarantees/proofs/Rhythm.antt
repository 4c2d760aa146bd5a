-- The synchronous arrivals are a legal pattern: a row brings its cost where its period divides the tick, and two such ticks are a period apart.
use mathlib.Core.Bool.{Bool, true, false}
use mathlib.Core.List.{List, [], ◌∷◌, ◌++◌}
use mathlib.Core.Logic.{◌⊎◌, inl, inr}
use mathlib.Core.Path.{◌≡◌, refl, sym, ap, ◌∙◌}
use native.Mathlib.Omega.{arith}
use borrow.Author.Tests.{eqb-true}
use Prim.Native.Nat.{ℕ, zero, suc, ◌+◌, ◌%◌, ◌≤◌, ◌<◌}
use lib.Dec.{eqb}
use lib.ListN.{length, get_or}
use Rattle.demand.proofs.Divide.{le-or-lt}
use Rattle.demand.specs.Rows.{Row, tasks_of, handlers_of, row_at}
use Rattle.demand.specs.Tests.{pick}
use Rattle.machine.proofs.Beats.{beats-length, between}
use Rattle.machine.specs.Schedules.{beat, beats}
use Rattle.guarantees.specs.Patterns.{rows_in}
use Rattle.guarantees.specs.Synchronous.{beat_of, SyncLegal}

-- Tasks and handlers in one list.
pub beats-append : (n : ℕ) (xs ys : List Row) → beats n (xs ++ ys) ≡ beats n xs ++ beats n ys
unfolding beats
beats-append n [] ys = refl
beats-append n (x ∷ xs) ys = ap (λ (ws : List ℕ). beat n x ∷ ws) (beats-append n xs ys)

pub beats-at : (n : ℕ) (rs : List Row) (k : ℕ) → k < length rs → get_or (beats n rs) k 0 ≡ beat n (row_at rs k)
unfolding beats
beats-at n [] k l = absurd (omega arith)
beats-at n (r ∷ rs) zero l = refl
beats-at n (r ∷ rs) (suc k) l = beats-at n rs k (omega arith)

-- A row brings its cost or nothing, ..
beat-most : (n : ℕ) (r : Row) → beat n r ≤ r.cost
beat-most n r = go (eqb (n % r.period) 0)
  where
    go : (b : Bool) → pick b r.cost 0 ≤ r.cost
    go true = omega arith
    go false = omega arith

-- .. and something only where its period divides the tick.
beat-divides : (n : ℕ) (r : Row) → 0 < beat n r → n % r.period ≡ 0
beat-divides n r = go (eqb (n % r.period) 0) refl
  where
    go : (b : Bool) → eqb (n % r.period) 0 ≡ b → 0 < pick b r.cost 0 → n % r.period ≡ 0
    go true e some = eqb-true _ _ e
    go false e some = absurd (omega arith)

beat-apart : (m n : ℕ) (r : Row) → m < n → 0 < beat m r → 0 < beat n r → m + r.period ≤ n
beat-apart m n r l before now = go (le-or-lt (m + r.period) n)
  where
    go : (m + r.period ≤ n) ⊎ (n < m + r.period) → m + r.period ≤ n
    go (inl far) = far
    go (inr near) = absurd (between m n r.period l near (beat-divides n r now) (beat-divides m r before))

pub sync-legal : SyncLegal
sync-legal t h = record {
  count = λ n. ap (λ (ws : List ℕ). length ws) (listed n) ∙ beats-length n (rows_in t h);
  in-cost = λ n k l. rw (at_place n k l) (beat-most n (row_at (rows_in t h) k));
  apart = λ m n k l before some now.
      beat-apart m n (row_at (rows_in t h) k) before (rw (at_place m k l) at some) (rw (at_place n k l) at now);
}
  where
    listed : (n : ℕ) → beat_of t h n ≡ beats n (rows_in t h)
    listed n = unfold beat_of in sym (beats-append n (tasks_of t) (handlers_of h))

    at_place : (n k : ℕ) → k < length (rows_in t h) → get_or (beat_of t h n) k 0 ≡ beat n (row_at (rows_in t h) k)
    at_place n k l = ap (λ (ws : List ℕ). get_or ws k 0) (listed n) ∙ beats-at n (rows_in t h) k l
