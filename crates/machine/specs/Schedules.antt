-- Schedules of the synchronous arrivals: every row at tick 0 and each period after, with its full cost (00, demand 3; 01, case 13).
--   beat t r               == what row r brings at tick t: its cost where its period divides t, else 0
--   beats t rs             == that, for each row
--   RanOne xs xs'          of the rows xs at most one, that is owed work, runs for a tick
--   Gave xs ys xs' ys'     one tick of any schedule that puts handlers ys first, before tasks xs
--   Timely ts hs t xs ys   some such schedule brings the fresh table to tasks xs and handlers ys in t ticks, on time at every clock to t
use Rattle.std.specs.Prelude.{List, [], ◌∷◌, ◌≡◌, ℕ, suc, ◌%◌, eqb}
use Rattle.demand.specs.Rows.{Row}
use Rattle.demand.specs.Tests.{pick}
use Rattle.machine.specs.Live.{Live, idle, arrive_all, owed_all, left, OnTime}

abbrev pub beat : ℕ → Row → ℕ
beat t r = pick (eqb (t % r.period) 0) r.cost 0

unfoldable pub beats : ℕ → List Row → List ℕ
beats t [] = []
beats t (r ∷ rs) = beat t r ∷ beats t rs

pub data RanOne : List Live → List Live → Type 0 where
  ran-none : {xs : List Live} → RanOne xs xs
  ran-here : {x : Live} {xs : List Live} (n : ℕ) → x.owed ≡ suc n → RanOne (x ∷ xs) (left n x ∷ xs)
  ran-later : {x : Live} {xs ys : List Live} → RanOne xs ys → RanOne (x ∷ xs) (x ∷ ys)

-- To a handler; or, only where no handler is owed work, to a task. Either may be wasted.
pub data Gave : List Live → List Live → List Live → List Live → Type 0 where
  to-handlers : {xs ys ys' : List Live} → RanOne ys ys' → Gave xs ys xs ys'
  to-tasks : {xs ys xs' : List Live} → owed_all ys ≡ 0 → RanOne xs xs' → Gave xs ys xs' ys

-- At clock 0 a fresh table is owed nothing, and so on time.
pub data Timely (ts hs : List Row) : ℕ → List Live → List Live → Type 0 where
  start : Timely ts hs 0 (idle ts) (idle hs)
  onward : {t : ℕ} {xs ys xs' ys' : List Live}
      → Timely ts hs t xs ys → Gave (arrive_all t (beats t ts) xs) (arrive_all t (beats t hs) ys) xs' ys' → OnTime (suc t) xs'
      → Timely ts hs (suc t) xs' ys'
