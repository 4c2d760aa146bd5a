-- The least length with room for what is asked (02, M-103): "for each task give the least L from 1 to its deadline with L at
-- least A(L) plus the sum .., or say that there is none".
--   Meets ts hs i l     l is from 1 to the deadline of task i and has room for what is asked
--   least_to a n         == the least l from 1 to n with a l at most l, 0 for none
--   response ts hs i    == that of what is asked, up to the deadline of task i: its response, 0 for none
--   IsLeast, IsNone     a response meets and nothing shorter does; without one nothing does
--   ResponseTells       a response that is not 0 is the least, and 0 says that there is none
--   listed f n          == f 0, f 1, .. f (n - 1)
--   leasts ts hs        == the responses of all 64 places: 0 past the last task
--   Responds ts hs      every task has a response
use Rattle.std.specs.Prelude.{List, [], ◌∷◌, ◌≡◌, ℕ, zero, suc, ◌≤◌, ◌<◌, ltb, length}
use Rattle.demand.specs.Limits.{tasks_most}
use Rattle.demand.specs.Rows.{Row, row_at}
use Rattle.demand.specs.Tests.{pick}
use Rattle.priority.specs.Asked.{asked}

pub record Meets (ts hs : List Row) (i l : ℕ) : Type 0 where
  pub from_one : 1 ≤ l
  pub in-time : l ≤ (row_at ts i).deadline
  pub room : asked ts hs i l ≤ l

-- ---- the least of them

-- x, or y where x is 0
abbrev pub or_else : ℕ → ℕ → ℕ
or_else zero y = y
or_else (suc x) y = suc x

unfoldable pub least_to : (ℕ → ℕ) → ℕ → ℕ
least_to a zero = 0
least_to a (suc n) = or_else (least_to a n) (pick (ltb (suc n) (a (suc n))) 0 (suc n))

unfoldable pub response : List Row → List Row → ℕ → ℕ
response ts hs i = least_to (asked ts hs i) (row_at ts i).deadline

pub record IsLeast (ts hs : List Row) (i l : ℕ) : Type 0 where
  pub meets : Meets ts hs i l
  pub least : (m : ℕ) → Meets ts hs i m → l ≤ m

abbrev pub IsNone : List Row → List Row → ℕ → Type 0
IsNone ts hs i = (m : ℕ) → Meets ts hs i m → ⊥

pub record Tells (ts hs : List Row) (i : ℕ) : Type 0 where
  pub some : 0 < response ts hs i → IsLeast ts hs i (response ts hs i)
  pub none : response ts hs i ≡ 0 → IsNone ts hs i

abbrev pub ResponseTells : Type 0
ResponseTells = (ts hs : List Row) (i : ℕ) → Tells ts hs i

-- ---- those of all tasks

unfoldable pub listed_from : ℕ → (ℕ → ℕ) → ℕ → List ℕ
listed_from j f zero = []
listed_from j f (suc n) = f j ∷ listed_from (suc j) f n

abbrev pub listed : (ℕ → ℕ) → ℕ → List ℕ
listed f n = listed_from 0 f n

unfoldable pub leasts : List Row → List Row → List ℕ
leasts ts hs = listed (response ts hs) tasks_most

abbrev pub Responds : List Row → List Row → Type 0
Responds ts hs = (i : ℕ) → i < length ts → 0 < response ts hs i
