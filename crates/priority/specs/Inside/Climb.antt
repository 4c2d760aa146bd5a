-- The climb from below: where l has no room for a l, no length below a l has room.
--   Below a l                no length from 1 below l has room
--   Climbed a l d r          from l one has come to r: nothing below it has room, and it has, unless it is above d
--   Climbing a l r           the same on the way: nothing below it has room
--   found ts hs end i        == the response of task i where its rank is below `end`, else 0
--   Searched ts hs end l ls  the tasks of a rank below `end` are done: ls has their responses, no length below l has room for any other
use Rattle.std.specs.Prelude.{List, ◌≡◌, ℕ, ◌≤◌, ◌<◌, ltb, length}
use Rattle.demand.specs.Limits.{tasks_most}
use Rattle.demand.specs.Rows.{Row}
use Rattle.demand.specs.Tests.{pick}
use Rattle.priority.specs.Asked.{asked}
use Rattle.priority.specs.Inside.Ranks.{rank_at}
use Rattle.priority.specs.Responses.{listed, response}

abbrev pub Below : (ℕ → ℕ) → ℕ → Type 0
Below a l = (m : ℕ) → 0 < m → m < l → m < a m

pub record Climbing (a : ℕ → ℕ) (l r : ℕ) : Type 0 where
  pub onward : l ≤ r
  pub below : Below a l → Below a r

pub record Climbed (a : ℕ → ℕ) (l d r : ℕ) : Type 0 where
  pub climbing : Climbing a l r
  pub room : r ≤ d → a r ≤ r

abbrev pub found : List Row → List Row → ℕ → ℕ → ℕ
found ts hs end i = pick (ltb (rank_at ts i) end) (response ts hs i) 0

pub record Searched (ts hs : List Row) (end l : ℕ) (ls : List ℕ) : Type 0 where
  pub done : ls ≡ listed (found ts hs end) tasks_most
  pub from_one : 1 ≤ l
  pub below : (i : ℕ) → i < length ts → end ≤ rank_at ts i → Below (asked ts hs i) l
