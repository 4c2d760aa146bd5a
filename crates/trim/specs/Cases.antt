-- Tables trimmed by hand, 01's cases among them: one list, one statement.
--   Case           == a table, the task that is named and the figures of the answer
--   cases          == the list
--   CaseHolds c    the promise holds of these figures, and whatever it allows has them
--   EveryCase cs   each case of the list holds
use Rattle.std.specs.Prelude.{List, [], ◌∷◌, ◌≡◌, ℕ, Result}
use Rattle.demand.specs.declared.refusal.Refusal.{Refusal}
use Rattle.trim.specs.Promise.{Figures, figures, cost_of, none_of, refusal_of, Says, TrimSays}
use Rattle.trim.specs.declared.Cut.{Cut}

pub record Case : Type 0 where
  pub tasks : List ℕ
  pub handlers : List ℕ
  pub row : ℕ
  pub told : Figures

abbrev case : List ℕ → List ℕ → ℕ → Figures → Case
case t h i g = record { tasks = t; handlers = h; row = i; told = g }

-- 01's case 6, which fits as it is; 5 and 8, which miss with cost 1 too; 4, 9 and 10, which fit with less. A cost far above the period; a
-- short deadline that decides; a task that is not to blame, and the one that is. Refusals 1, 2, 3, 13, 4 and 18, each where those
-- that come after it apply too (13 only where there is a task), 18 with one row too many.
unfoldable pub cases : List Case
cases =
    case (1 ∷ 3 ∷ 3 ∷ []) (2 ∷ 10 ∷ []) 0 (cost_of 1 1)
    ∷ case (2 ∷ 4 ∷ 4 ∷ []) (2 ∷ 3 ∷ []) 0 (cost_of 2 1)
    ∷ case (1 ∷ 2 ∷ 2 ∷ []) (2 ∷ 10 ∷ []) 0 (none_of 1)
    ∷ case (1 ∷ 1 ∷ 1 ∷ []) (1 ∷ 1000000 ∷ []) 0 (none_of 1)
    ∷ case (2 ∷ 5 ∷ 5 ∷ 4 ∷ 8 ∷ 8 ∷ []) (1 ∷ 4 ∷ []) 0 (cost_of 2 1)
    ∷ case (2 ∷ 5 ∷ 5 ∷ 4 ∷ 8 ∷ 8 ∷ []) (1 ∷ 4 ∷ []) 1 (cost_of 4 2)
    ∷ case (3 ∷ 2 ∷ 2 ∷ []) [] 0 (cost_of 3 2)
    ∷ case (1000000 ∷ 10 ∷ 10 ∷ []) [] 0 (cost_of 1000000 10)
    ∷ case (1 ∷ 4 ∷ 4 ∷ 3 ∷ 12 ∷ 2 ∷ []) [] 1 (cost_of 3 2)
    ∷ case (5 ∷ 4 ∷ 4 ∷ 1 ∷ 4 ∷ 4 ∷ []) [] 1 (none_of 1)
    ∷ case (5 ∷ 4 ∷ 4 ∷ 1 ∷ 4 ∷ 4 ∷ []) [] 0 (cost_of 5 3)
    ∷ case (1 ∷ []) (0 ∷ 1001 ∷ 0 ∷ 1000000 ∷ []) 0 (refusal_of 1)
    ∷ case (1 ∷ 4 ∷ 5 ∷ 1 ∷ []) [] 1 (refusal_of 1)
    ∷ case [] (0 ∷ 1001 ∷ 0 ∷ 1000000 ∷ []) 0 (refusal_of 2)
    ∷ case (0 ∷ 1001 ∷ 1002 ∷ 1 ∷ 1000000 ∷ 1 ∷ []) [] 2 (refusal_of 3)
    ∷ case (1 ∷ 1001 ∷ 1002 ∷ 1 ∷ 1000000 ∷ 1 ∷ []) [] 2 (refusal_of 13)
    ∷ case (1 ∷ 1001 ∷ 1001 ∷ 1 ∷ 1000000 ∷ 1000000 ∷ []) [] 2 (refusal_of 4)
    ∷ case (1 ∷ 3 ∷ 3 ∷ []) (2 ∷ 10 ∷ []) 1 (refusal_of 18)
    ∷ []

pub record CaseHolds (c : Case) : Type 0 where
  pub holds : Says c.tasks c.handlers c.row c.told
  pub only : (r : Result Cut Refusal) → TrimSays c.tasks c.handlers c.row r → figures r ≡ c.told

abbrev pub EveryCase : List Case → Type 0
EveryCase [] = Unit
EveryCase (c ∷ cs) = CaseHolds c × EveryCase cs
