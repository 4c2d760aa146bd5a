-- The rows above a place, by fixed priority: work that they are owed or can yet be called for, and what arrivals and a tick by priority do to it.
--   shorter n xs               == work owed to tasks with a period below n
--   fixed xs                   == the task with the shortest period of those that are owed work, the lowest of several, has run for a tick
--   over p i j r               not 0 where row r at place j comes before a row of period p at place i
--   above_owed p i j xs         == work that rows above p, i are owed; the first row is at place j
--   above_future p i j t xs k   == work that they can yet be called for within k ticks from t
--   above_called p i j rs k     == work that they are called for within k ticks
use mathlib.Core.List.{List, [], ◌∷◌}
use mathlib.Core.Path.{◌≡◌, refl, ap}
use native.Mathlib.Nat.{mul-le-mul_left}
use native.Mathlib.Omega.{arith}
use Prim.Native.Nat.{ℕ, zero, suc, ◌+◌, ◌-◌, ◌*◌, ◌≤◌, ◌<◌, min}
use Rattle.demand.specs.Demands.{ceil}
use Rattle.demand.specs.Rows.{Row, Positive}
use Rattle.demand.proofs.Divide.{ceil-mono}
use Rattle.machine.specs.Live.{Live, arrive, arrive_all, period_of}
use Rattle.machine.specs.Inside.Legal.{table_of, LegalAll}
use Rattle.machine.specs.Machine.{share, before_by, chosen, serve_by}
use Rattle.machine.specs.Schedules.{RanOne, ran-none, ran-here, ran-later}
use Rattle.machine.proofs.Room.{handler-arrives, wait-less}

abbrev pub shorter : ℕ → List Live → ℕ
shorter n xs = before_by period_of n xs

abbrev pub fixed : List Live → List Live
fixed xs = serve_by period_of xs

-- Its period is shorter, or as long and j < i.
abbrev pub over : ℕ → ℕ → ℕ → Row → ℕ
over p i j r = p + min 1 (i - j) - r.period

unfoldable pub above_owed : ℕ → ℕ → ℕ → List Live → ℕ
above_owed p i j [] = 0
above_owed p i j (x ∷ xs) = share (over p i j x.row) x.owed + above_owed p i (suc j) xs

unfoldable pub above_future : ℕ → ℕ → ℕ → ℕ → List Live → ℕ → ℕ
above_future p i j t [] k = 0
above_future p i j t (x ∷ xs) k = share (over p i j x.row) (x.row.cost * ceil (k - (x.next - t)) x.row.period) + above_future p i (suc j) t xs k

unfoldable pub above_called : ℕ → ℕ → ℕ → List Row → ℕ → ℕ
above_called p i j [] k = 0
above_called p i j (r ∷ rs) k = share (over p i j r) (r.cost * ceil k r.period) + above_called p i (suc j) rs k

-- ---- shares

pub share-zero : (k : ℕ) → share k 0 ≡ 0
share-zero zero = refl
share-zero (suc k) = refl

share-le : (k l o q : ℕ) → (0 < k → 0 < l) → o ≤ q → share k o ≤ share l q
share-le zero l o q h m = omega arith
share-le (suc k) zero o q h m = absurd (omega (arith, h (omega arith)))
share-le (suc k) (suc l) o q h m = m

pub share-all : (k o : ℕ) → 0 < k → share k o ≡ o
share-all zero o h = absurd (omega arith)
share-all (suc k) o h = refl

pub share-none : (k o : ℕ) → k ≡ 0 → share k o ≡ 0
share-none zero o h = refl
share-none (suc k) o h = absurd (omega arith)

-- What moves from one part to the other within a share.
pub share-two : (k o f o' f' : ℕ) → o' + f' ≤ o + f → share k o' + share k f' ≤ share k o + share k f
share-two zero o f o' f' h = omega arith
share-two (suc k) o f o' f' h = h

-- ---- who runs

-- Of a row behind, at least as many have a shorter period as come before the place; ..
above-shorter : (p i j n : ℕ) → p + min 1 (i - j) ≤ n → (xs : List Live) → above_owed p i j xs ≤ shorter n xs
unfolding above_owed before_by
above-shorter p i j n h [] = omega arith
above-shorter p i j n h (x ∷ xs) =
    omega (
      arith,
      share-le (over p i j x.row) (n - x.row.period) x.owed x.owed (λ m. omega arith) (omega arith),
      above-shorter p i (suc j) n (omega arith) xs,
    )

-- .. and no more than come before it, where the period is no longer.
shorter-above : (p i j n : ℕ) → n ≤ p → (xs : List Live) → shorter n xs ≤ above_owed p i j xs
unfolding above_owed before_by
shorter-above p i j n h [] = omega arith
shorter-above p i j n h (x ∷ xs) =
    omega (
      arith,
      share-le (n - x.row.period) (over p i j x.row) x.owed x.owed (λ m. omega arith) (omega arith),
      shorter-above p i (suc j) n h xs,
    )

-- A tick takes one unit from the work above any place, where there is any.
pub fixed-above : (p i j : ℕ) (xs : List Live) → above_owed p i j (fixed xs) ≤ above_owed p i j xs - 1
unfolding above_owed serve_by
fixed-above p i j [] = omega arith
fixed-above p i j (x ∷ xs) = go x.owed (shorter x.row.period xs) (over p i j x.row) refl refl refl (fixed-above p i (suc j) xs)
  where
    rest : ℕ
    rest = above_owed p i (suc j) xs

    go : (o b s : ℕ) → x.owed ≡ o → shorter x.row.period xs ≡ b → over p i j x.row ≡ s → above_owed p i (suc j) (fixed xs) ≤ rest - 1
        → above_owed p i j (chosen o b x xs (fixed xs)) ≤ share (over p i j x.row) x.owed + rest - 1
    go zero b s eo eb es ih = omega (arith, ap (share (over p i j x.row)) eo, share-zero (over p i j x.row))
    go (suc o) zero zero eo eb es ih =
        rw es (omega (arith, above-shorter p i (suc j) x.row.period (omega arith) xs))
    go (suc o) zero (suc s) eo eb es ih = rw es (omega arith)
    go (suc o) (suc b) zero eo eb es ih = rw es (omega arith)
    go (suc o) (suc b) (suc s) eo eb es ih =
        rw es (omega (arith, shorter-above p i (suc j) x.row.period (omega arith) xs))

-- Whoever runs: what can yet be called for stays.
pub ran-above-future : {xs ys : List Live} (p i j t k : ℕ) → RanOne xs ys → above_future p i j t ys k ≡ above_future p i j t xs k
unfolding above_future
ran-above-future p i j t k ran-none = refl
ran-above-future p i j t k (ran-here n e) = refl
ran-above-future p i j t k (ran-later r) = rw (ran-above-future p i (suc j) t k r)

-- ---- a tick goes by, and arrivals

-- A tick goes by: no more can be called for in what is left.
pub above-less : (p i j t k : ℕ) (xs : List Live) → above_future p i j (suc t) xs k ≤ above_future p i j t xs (suc k)
unfolding above_future
above-less p i j t k [] = omega arith
above-less p i j t k (x ∷ xs) =
    omega (
      arith,
      share-le (over p i j x.row) (over p i j x.row) _ _ (λ m. m) (mul-le-mul_left x.row.cost (ceil-mono x.row.period (wait-less t k x.next))),
      above-less p i (suc j) t k xs,
    )

-- No more than a fresh table is called for.
pub above-le-called : (p i j t k : ℕ) (xs : List Live) → above_future p i j t xs k ≤ above_called p i j (table_of xs) k
unfolding above_future above_called table_of
above-le-called p i j t k [] = omega arith
above-le-called p i j t k (x ∷ xs) =
    let l : k - (x.next - t) ≤ k = omega arith in
    omega (
      arith,
      share-le (over p i j x.row) (over p i j x.row) _ _ (λ m. m) (mul-le-mul_left x.row.cost (ceil-mono x.row.period l)),
      above-le-called p i (suc j) t k xs,
    )

pub arrive-row : (t w : ℕ) (x : Live) → (arrive t w x).row ≡ x.row
arrive-row t zero x = refl
arrive-row t (suc w) x = refl

-- Legal arrivals move work from what can be called for to what is owed.
pub above-arrive : (p i j t l : ℕ) (ws : List ℕ) (xs : List Live) → Positive (table_of xs) → LegalAll t ws xs
    → above_owed p i j (arrive_all t ws xs) + above_future p i j t (arrive_all t ws xs) (suc l) ≤ above_owed p i j xs + above_future p i j t xs (suc l)
unfolding arrive_all above_owed above_future table_of
above-arrive p i j t l [] xs pos legal = omega arith
above-arrive p i j t l (w ∷ ws) [] pos legal = omega arith
above-arrive p i j t l (w ∷ ws) (x ∷ xs) pos legal =
    rw (arrive-row t w x)
    (omega (
      arith,
      share-two (over p i j x.row) _ _ _ _ (rw (arrive-row t w x) at (handler-arrives t l w x pos.0 legal.0)),
      above-arrive p i (suc j) t l ws xs pos.1 legal.1,
    ))
