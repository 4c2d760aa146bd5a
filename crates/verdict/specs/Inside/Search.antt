-- How far a search goes, and what it finds. No promise cites it: the facts that end it are stated in specs/Facts.
--   end_by H W B            == the smallest end that the facts allow where H, W and the bound are these
--   search_end ts hs        == that end of a table: no length above it need be looked at
--   FoundSays ts hs end looks r   the search's answer: the shortest length that fails, with what is told of it, or that none does up to
--                          end or, where it looks for the idle point, up to that if it comes sooner, with the test lengths up to there
--   Searched ts hs t h p d n   the search has come to p.at, with f and A in p, D in d and the events t and h to come: all up to there
--                          passes, and n test lengths are among it
use Rattle.std.specs.Prelude.{Bool, true, List, ◌≡◌, ℕ, ◌+◌, ◌-◌, ◌/◌, ◌≤◌, min, ltb, length}
use Rattle.walk.specs.Queue.{to_come, Ahead, Queue}
use Rattle.demand.specs.Demands.{called, due}
use Rattle.demand.specs.Inside.Arrivals.{Follows}
use Rattle.demand.specs.Rows.{Row}
use Rattle.demand.specs.Tests.{pick}
use Rattle.demand.specs.declared.arrivals.Progress.{Progress}
use Rattle.verdict.specs.Facts.{PassesTo, bound}
use Rattle.verdict.specs.Idle.{Idle}
use Rattle.verdict.specs.Loads.{whole}
use Rattle.verdict.specs.Multiples.{common}
use Rattle.verdict.specs.Lengths.{LeastFailing}
use Rattle.verdict.specs.Promise.{miss_at}
use Rattle.verdict.specs.Tested.{tested}
use Rattle.verdict.specs.declared.Miss.{Miss}
use Rattle.verdict.specs.declared.search.Found.{Found}
use Rattle.verdict.specs.declared.search.Found.TheVariants.{At, Nothing}
use Rattle.walk.specs.declared.Entry.{Entry}

-- H, or, where W is below it, the greatest L that the last fact still admits, if below H: 0 where the bound is 0.
unfoldable pub end_by : ℕ → ℕ → ℕ → ℕ
end_by H W B = pick (ltb W H) (min H ((B - 1) / (H - W))) H

unfoldable pub search_end : List Row → List Row → ℕ
search_end ts hs = end_by (common ts hs) (whole ts hs) (bound ts hs)

pub record FoundAt (ts hs : List Row) (end : ℕ) (m : Miss) : Type 0 where
  pub shortest : LeastFailing ts hs m.interval
  pub within : m.interval ≤ end
  pub exact : m ≡ miss_at ts hs m.interval

-- n test lengths up to end, all of which pass
pub record Through (ts hs : List Row) (end n : ℕ) : Type 0 where
  pub passes : PassesTo ts hs end
  pub count : n ≡ tested ts end

-- z is the idle point where that was looked for
unfoldable pub FoundSays : List Row → List Row → ℕ → Bool → Found → Type 0
FoundSays ts hs end looks (At miss) = FoundAt ts hs end miss
FoundSays ts hs end looks (Nothing n) = (z : ℕ) → (looks ≡ true → Idle ts hs z) → Through ts hs (pick looks (min z end) end) n

pub record Searched (ts hs : List Row) (t h : List Entry) (p : Progress) (d n : ℕ) : Type 0 where
  pub some : 1 ≤ length t
  pub tasks : Queue t
  pub handlers : Queue h
  pub tasks-ahead : Ahead p.at t
  pub handlers-ahead : Ahead p.at h
  pub low : p.taken ≤ p.called
  pub follows : Follows (called hs) h p
  pub dues : (x : ℕ) → p.at ≤ x → due ts x ≡ d + to_come t x
  pub passed : PassesTo ts hs p.at
  pub count : n ≡ tested ts p.at
