-- Whoever is chosen runs for a tick: the machine's choices are `RanOne`, and what runs keeps its table.
use mathlib.Core.List.{List, [], ◌∷◌}
use mathlib.Core.Path.{◌≡◌, refl}
use Prim.Native.Nat.{ℕ, zero, suc}
use Rattle.machine.specs.Live.{Live, owed_all}
use Rattle.machine.specs.Machine.{before_by, runs_or, serve, chosen, serve_by, given_by}
use Rattle.machine.specs.Schedules.{RanOne, ran-none, ran-here, ran-later, Gave, to-handlers, to-tasks}
use Rattle.machine.specs.Inside.Legal.{table_of}

-- The first handler that is owed work, where one is.
pub serve-ran : (xs : List Live) → RanOne xs (serve xs)
unfolding serve
serve-ran [] = ran-none
serve-ran (x ∷ xs) = go x.owed refl (serve-ran xs)
  where
    go : (o : ℕ) → x.owed ≡ o → RanOne xs (serve xs) → RanOne (x ∷ xs) (runs_or o x xs (serve xs))
    go zero e rest = ran-later rest
    go (suc o) e rest = ran-here o e

-- The row with the smallest key, where any is owed work.
pub serve-by-ran : (key : Live → ℕ) (xs : List Live) → RanOne xs (serve_by key xs)
unfolding serve_by
serve-by-ran key [] = ran-none
serve-by-ran key (x ∷ xs) = go x.owed (before_by key (key x) xs) refl (serve-by-ran key xs)
  where
    go : (o b : ℕ) → x.owed ≡ o → RanOne xs (serve_by key xs) → RanOne (x ∷ xs) (chosen o b x xs (serve_by key xs))
    go zero b e rest = ran-later rest
    go (suc o) zero e rest = ran-here o e
    go (suc o) (suc b) e rest = ran-later rest

-- Running changes no row of the table.
pub ran-table : {xs ys : List Live} → RanOne xs ys → table_of ys ≡ table_of xs
unfolding table_of
ran-table ran-none = refl
ran-table (ran-here n e) = refl
ran-table (ran-later r) = rw (ran-table r)

-- The tasks of one tick of a schedule: one runs, or none.
pub gave-tasks : {xs ys xs' ys' : List Live} → Gave xs ys xs' ys' → RanOne xs xs'
gave-tasks (to-handlers r) = ran-none
gave-tasks (to-tasks none r) = r

-- Its handlers: likewise.
pub gave-handlers : {xs ys xs' ys' : List Live} → Gave xs ys xs' ys' → RanOne ys ys'
gave-handlers (to-handlers r) = r
gave-handlers (to-tasks none r) = ran-none

-- A scheduler that chooses at most one row that is owed work is one of the schedules.
module _ (choose : List Live → List Live) (ran : (xs : List Live) → RanOne xs (choose xs)) where
  -- Where handlers are owed o in all: to them, or to the task that is chosen.
  pub given-gave : (o t : ℕ) (xs ys : List Live) → owed_all ys ≡ o → Gave xs ys (given_by choose o t xs ys).tasks (given_by choose o t xs ys).handlers
  given-gave zero t xs ys e = to-tasks e (ran xs)
  given-gave (suc o) t xs ys e = to-handlers (serve-ran ys)
