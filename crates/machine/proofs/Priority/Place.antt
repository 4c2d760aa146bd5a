-- The row at work at one place: what comes to it, what a tick by priority leaves of it, and its part in the work above the next place.
--   Came t x y   y is x after a legal arrival at t, or none
--   Left x y     y is x, with at most the work that x was owed
use mathlib.Core.List.{List, [], ◌∷◌}
use mathlib.Core.Path.{◌≡◌, refl, ap}
use native.Mathlib.Omega.{arith}
use Prim.Native.Nat.{ℕ, zero, suc, ◌+◌, ◌*◌, ◌≤◌, ◌<◌}
use lib.ListN.{length}
use Rattle.demand.specs.Demands.{ceil}
use Rattle.demand.specs.Rows.{Row, row_at}
use Rattle.machine.specs.Places.{no_live, at_place}
use Rattle.machine.specs.Live.{Live, idle, arrive, arrive_all}
use Rattle.machine.specs.Inside.Legal.{table_of, Legal, LegalAll}
use Rattle.machine.specs.Machine.{share, chosen, serve_by}
use Rattle.machine.proofs.Ordered.{Ordered}
use Rattle.machine.proofs.Priority.Above.{fixed, over, above_owed, above_called, shorter, share-zero, share-all, share-none}

pub at_row : (i : ℕ) (xs : List Live) → (at_place i xs).row ≡ row_at (table_of xs) i
unfolding table_of
at_row i [] = refl
at_row zero (x ∷ xs) = refl
at_row (suc i) (x ∷ xs) = at_row i xs

pub table-length : (xs : List Live) → length (table_of xs) ≡ length xs
unfolding table_of
table-length [] = refl
table-length (x ∷ xs) = ap suc (table-length xs)

pub at-ordered : (i : ℕ) (xs : List Live) → Ordered xs → (at_place i xs).due ≤ (at_place i xs).next
at-ordered i [] o = omega arith
at-ordered zero (x ∷ xs) o = o.0
at-ordered (suc i) (x ∷ xs) o = at-ordered i xs o.1

-- What came to it.
pub record Came (t : ℕ) (x y : Live) : Type 0 where
  pub work : ℕ
  pub legal : Legal t work x
  pub is : y ≡ arrive t work x

came-none : (t : ℕ) (x : Live) → Came t x x
came-none t x = record { work = 0; legal = tt; is = refl }

pub came-at : (t i : ℕ) (ws : List ℕ) (xs : List Live) → LegalAll t ws xs → Came t (at_place i xs) (at_place i (arrive_all t ws xs))
unfolding arrive_all
came-at t i [] xs legal = came-none t (at_place i xs)
came-at t i (w ∷ ws) [] legal = came-none t no_live
came-at t zero (w ∷ ws) (x ∷ xs) legal = record { work = w; legal = legal.0; is = refl }
came-at t (suc i) (w ∷ ws) (x ∷ xs) legal = came-at t i ws xs legal.1

-- What a tick leaves of it.
pub record Left (x y : Live) : Type 0 where
  pub row_is : y.row ≡ x.row
  pub next-is : y.next ≡ x.next
  pub due-is : y.due ≡ x.due
  pub less : y.owed ≤ x.owed

left-none : (x : Live) → Left x x
left-none x = record { row_is = refl; next-is = refl; due-is = refl; less = omega arith }

pub fixed-at : (i : ℕ) (xs : List Live) → Left (at_place i xs) (at_place i (fixed xs))
unfolding serve_by
fixed-at i [] = left-none no_live
fixed-at zero (x ∷ xs) = go x.owed (shorter x.row.period xs) refl
  where
    go : (o b : ℕ) → x.owed ≡ o → Left x (at_place 0 (chosen o b x xs (fixed xs)))
    go zero b e = left-none x
    go (suc o) zero e = record { row_is = refl; next-is = refl; due-is = refl; less = omega arith }
    go (suc o) (suc b) e = left-none x
fixed-at (suc i) (x ∷ xs) = go x.owed (shorter x.row.period xs) (fixed-at i xs)
  where
    go : (o b : ℕ) → Left (at_place i xs) (at_place i (fixed xs)) → Left (at_place i xs) (at_place (suc i) (chosen o b x xs (fixed xs)))
    go zero b ih = ih
    go (suc o) zero ih = left-none (at_place i xs)
    go (suc o) (suc b) ih = ih

-- ---- what is above i + 1 is what is above i, and i

share-like : (k l o : ℕ) → k ≡ l → share k o ≡ share l o
share-like k l o e = ap (λ (m : ℕ). share m o) e

-- Behind both places neither counts.
past : (p i m j : ℕ) → i ≤ j → m ≤ j → (xs : List Live) → above_owed p i j xs ≡ above_owed p m j xs
unfolding above_owed
past p i m j h l [] = refl
past p i m j h l (x ∷ xs) =
    omega (arith, share-like (over p i j x.row) (over p m j x.row) x.owed (omega arith), past p i m (suc j) (omega arith) (omega arith) xs)

-- So of what is owed.
pub own : (p i m j : ℕ) → i ≡ j + m → (xs : List Live) → m < length xs → (at_place m xs).row.period ≡ p → above_owed p (suc i) j xs ≡ above_owed p i j xs + (at_place m xs).owed
unfolding above_owed
own p i m j e [] h q = absurd (omega arith)
own p i zero j e (x ∷ xs) h q =
    omega (
      arith,
      share-all (over p (suc i) j x.row) x.owed (omega arith),
      share-none (over p i j x.row) x.owed (omega arith),
      past p (suc i) i (suc j) (omega arith) (omega arith) xs,
    )
own p i (suc m) j e (x ∷ xs) h q =
    omega (
      arith,
      share-like (over p (suc i) j x.row) (over p i j x.row) x.owed (omega arith),
      own p i m (suc j) (omega arith) xs (omega arith) q,
    )

past-called : (p i m j k : ℕ) → i ≤ j → m ≤ j → (rs : List Row) → above_called p i j rs k ≡ above_called p m j rs k
unfolding above_called
past-called p i m j k h l [] = refl
past-called p i m j k h l (r ∷ rs) =
    omega (arith, share-like (over p i j r) (over p m j r) (r.cost * ceil k r.period) (omega arith), past-called p i m (suc j) k (omega arith) (omega arith) rs)

-- So of what is called for.
pub own-called : (p i m j k : ℕ) → i ≡ j + m → (rs : List Row) → m < length rs → (row_at rs m).period ≡ p
    → above_called p (suc i) j rs k ≡ above_called p i j rs k + (row_at rs m).cost * ceil k p
unfolding above_called
own-called p i m j k e [] h q = absurd (omega arith)
own-called p i zero j k e (r ∷ rs) h q =
    let same : r.cost * ceil k r.period ≡ r.cost * ceil k p = ap (λ (x : ℕ). r.cost * ceil k x) q in
    omega (
      arith,
      same,
      share-all (over p (suc i) j r) (r.cost * ceil k r.period) (omega arith),
      share-none (over p i j r) (r.cost * ceil k r.period) (omega arith),
      past-called p (suc i) i (suc j) k (omega arith) (omega arith) rs,
    )
own-called p i (suc m) j k e (r ∷ rs) h q =
    omega (
      arith,
      share-like (over p (suc i) j r) (over p i j r) (r.cost * ceil k r.period) (omega arith),
      own-called p i m (suc j) k (omega arith) rs (omega arith) q,
    )

-- ---- a fresh table is owed nothing

pub idle-above : (p i j : ℕ) (rs : List Row) → above_owed p i j (idle rs) ≡ 0
unfolding above_owed idle
idle-above p i j [] = refl
idle-above p i j (r ∷ rs) = omega (arith, share-zero (over p i j r), idle-above p i (suc j) rs)

pub idle-at : (j : ℕ) (rs : List Row) → (at_place j (idle rs)).owed ≡ 0
unfolding idle
idle-at j [] = refl
idle-at zero (r ∷ rs) = refl
idle-at (suc j) (r ∷ rs) = idle-at j rs
