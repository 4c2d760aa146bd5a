-- Formula 2 and the two other charges worked out by hand: one list, one statement.
--   Case           == formula 2 of some handlers at a length; or a table, a quantum and what both charges come to
--   cases          == the list
--   CaseHolds c    the definitions give these figures
--   EveryCase cs   each case of the list holds
use Rattle.std.specs.Prelude.{List, [], ◌∷◌, ◌≡◌, ℕ, Option, Some, None}
use Rattle.charges.specs.Promise.{by_quantum, by_task}
use Rattle.charges.specs.Ways.{bounds}
use Rattle.charges.specs.declared.Charge.{Charge}
use Rattle.charges.specs.declared.Charge.TheVariants.{Fits, Misses}
use Rattle.demand.specs.Rows.{handlers_of}

pub data Case : Type 0 where
  bounded : (handlers : List ℕ) (l : ℕ) (ticks : ℕ) → Case
  charges : (tasks handlers : List ℕ) (quantum : ℕ) (by_quantum by_task : Option Charge) → Case

-- Document 001's Figure 2: a handler 3/5 is bounded by 8 in 12 ticks. 01's case 7: two handlers 1/4 are bounded by 2 in a single tick. A
-- cost above its period is taken for what it is.
-- Then 01's case 9, which misses all three ways; case 6, which fits, misses by quanta and just fits by task; three tasks that fill the
-- processor beside a handler, and miss both other ways; a task that is lighter by task than by quanta. Quanta of which handlers leave
-- nothing, or less than nothing. Costs that grow past 1,000,000, to the most that 64 tasks can come to. A short deadline, and refused
-- tables (1, 2, 3, 13 and 4), have none; a quantum is not looked at there.
unfoldable pub cases : List Case
cases =
    bounded (3 ∷ 5 ∷ []) 12 8
    ∷ bounded (1 ∷ 4 ∷ 1 ∷ 4 ∷ []) 1 2
    ∷ bounded (5 ∷ 3 ∷ []) 4 6
    ∷ charges (2 ∷ 5 ∷ 5 ∷ 4 ∷ 8 ∷ 8 ∷ []) (1 ∷ 4 ∷ []) 4 (Some (Misses 1800000)) (Some (Misses 1550000))
    ∷ charges (1 ∷ 3 ∷ 3 ∷ []) (2 ∷ 10 ∷ []) 5 (Some (Misses 1666667)) (Some (Fits 1000000))
    ∷ charges (3 ∷ 10 ∷ 10 ∷ 3 ∷ 10 ∷ 10 ∷ 3 ∷ 10 ∷ 10 ∷ []) (1 ∷ 10 ∷ []) 4 (Some (Misses 1200000)) (Some (Misses 1200000))
    ∷ charges (1 ∷ 10 ∷ 10 ∷ []) (1 ∷ 10 ∷ []) 10 (Some (Fits 1000000)) (Some (Fits 200000))
    ∷ charges (1 ∷ 4 ∷ 4 ∷ []) (1 ∷ 4 ∷ []) 1 None (Some (Fits 500000))
    ∷ charges (1 ∷ 4 ∷ 4 ∷ []) (1 ∷ 4 ∷ 1 ∷ 4 ∷ []) 1 None (Some (Fits 750000))
    ∷ charges (1 ∷ 4 ∷ 4 ∷ []) (1 ∷ 4 ∷ []) 2 (Some (Fits 500000)) (Some (Fits 500000))
    ∷ charges (1000000 ∷ 1000000 ∷ 1000000 ∷ []) (1 ∷ 1000000 ∷ 1 ∷ 1000000 ∷ []) 100000 (Some (Misses 1100000)) (Some (Misses 1000002))
    ∷ charges (1000000 ∷ 1 ∷ 1 ∷ []) (99999 ∷ 1000000 ∷ []) 100000 (Some (Misses 100000000000000000)) (Some (Misses 1000001000000))
    ∷ charges (1 ∷ 4 ∷ 3 ∷ []) [] 10 None None
    ∷ charges (1 ∷ []) [] 10 None None
    ∷ charges [] [] 10 None None
    ∷ charges (0 ∷ 4 ∷ 4 ∷ []) [] 10 None None
    ∷ charges (1 ∷ 4 ∷ 5 ∷ []) [] 10 None None
    ∷ charges (1 ∷ 1001 ∷ 1001 ∷ 1 ∷ 1000000 ∷ 1000000 ∷ []) [] 10 None None
    ∷ []

abbrev pub CaseHolds : Case → Type 0
CaseHolds (bounded h l n) = bounds (handlers_of h) l ≡ n
CaseHolds (charges t h q a b) = (by_quantum q t h ≡ a) × (by_task t h ≡ b)

abbrev pub EveryCase : List Case → Type 0
EveryCase [] = Unit
EveryCase (c ∷ cs) = CaseHolds c × EveryCase cs
