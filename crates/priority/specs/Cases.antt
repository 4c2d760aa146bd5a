-- Tables worked by hand: 01's cases 1 to 12 by fixed priority, short deadlines, ties and refusals. One list, one statement.
--   Case           == a table, the number of its refusal and the responses of its tasks
--   cases          == the list
--   sheet_of c      == the figures of its answer
--   CaseHolds c    the promise comes to these figures, and whatever it allows has them
--   EveryCase cs   each case of the list holds
use Rattle.std.specs.Prelude.{List, [], ◌∷◌, ◌≡◌, ℕ, get_or, Result}
use Rattle.demand.specs.Limits.{tasks_most}
use Rattle.demand.specs.Refusals.{table_refusal}
use Rattle.demand.specs.Rows.{tasks_of, handlers_of}
use Rattle.demand.specs.declared.refusal.Refusal.{Refusal}
use Rattle.priority.specs.Answers.{Figures, figures, figures_by, ResponsesSay}
use Rattle.priority.specs.Responses.{listed, leasts}

-- of a table that is not refused the responses of its tasks, one each; of a refused one none
pub record Case : Type 0 where
  pub tasks : List ℕ
  pub handlers : List ℕ
  pub code : ℕ
  pub least : List ℕ

abbrev case : List ℕ → List ℕ → List ℕ → Case
case t h ls = record { tasks = t; handlers = h; code = 0; least = ls }

abbrev tenth : List ℕ → List ℕ
tenth t = 1 ∷ 10 ∷ 10 ∷ t

abbrev refusal : List ℕ → List ℕ → ℕ → Case
refusal t h k = record { tasks = t; handlers = h; code = k; least = [] }

-- Cases 1 to 12; 12 is not refused, since H is not needed.
abbrev twelve : List Case → List Case
twelve more =
    case
    (tenth (tenth (tenth (tenth (tenth (tenth (tenth (tenth (tenth (tenth []))))))))))
    []
    (1 ∷ 2 ∷ 3 ∷ 4 ∷ 5 ∷ 6 ∷ 7 ∷ 8 ∷ 9 ∷ 10 ∷ [])
    ∷ case (2 ∷ 4 ∷ 4 ∷ []) (1 ∷ 2 ∷ []) (4 ∷ [])
    ∷ case (1 ∷ 4 ∷ 4 ∷ []) (2 ∷ 3 ∷ []) (3 ∷ [])
    ∷ case (2 ∷ 4 ∷ 4 ∷ []) (2 ∷ 3 ∷ []) (0 ∷ [])
    ∷ case (1 ∷ 2 ∷ 2 ∷ []) (2 ∷ 10 ∷ []) (0 ∷ [])
    ∷ case (1 ∷ 3 ∷ 3 ∷ []) (2 ∷ 10 ∷ []) (3 ∷ [])
    ∷ case (2 ∷ 4 ∷ 4 ∷ []) (1 ∷ 4 ∷ 1 ∷ 4 ∷ []) (4 ∷ [])
    ∷ case (1 ∷ 1 ∷ 1 ∷ []) (1 ∷ 1000000 ∷ []) (0 ∷ [])
    ∷ case (2 ∷ 5 ∷ 5 ∷ 4 ∷ 8 ∷ 8 ∷ []) (1 ∷ 4 ∷ []) (3 ∷ 0 ∷ [])
    ∷ case (3 ∷ 2 ∷ 2 ∷ []) [] (0 ∷ [])
    ∷ case (1 ∷ 1000 ∷ 1000 ∷ 1 ∷ 999999 ∷ 999999 ∷ []) [] (1 ∷ 2 ∷ [])
    ∷ case (1 ∷ 1001 ∷ 1001 ∷ 1 ∷ 1000000 ∷ 1000000 ∷ []) [] (1 ∷ 2 ∷ [])
    ∷ more

-- The lower row on a tie, and the same with a deadline that only the first meets; the shorter period first, wherever it stands, also
-- where its deadline is the later; a length within the period but not within the deadline; refusals 1, 2, 3 and 13 in this order.
unfoldable pub cases : List Case
cases =
    twelve
    (case (1 ∷ 4 ∷ 2 ∷ 1 ∷ 4 ∷ 2 ∷ []) [] (1 ∷ 2 ∷ [])
    ∷ case (1 ∷ 4 ∷ 1 ∷ 1 ∷ 4 ∷ 1 ∷ []) [] (1 ∷ 0 ∷ [])
    ∷ case (2 ∷ 5 ∷ 5 ∷ 4 ∷ 7 ∷ 7 ∷ []) [] (2 ∷ 0 ∷ [])
    ∷ case (4 ∷ 7 ∷ 7 ∷ 2 ∷ 5 ∷ 5 ∷ []) [] (0 ∷ 2 ∷ [])
    ∷ case (2 ∷ 6 ∷ 6 ∷ 1 ∷ 4 ∷ 4 ∷ []) (1 ∷ 5 ∷ []) (4 ∷ 2 ∷ [])
    ∷ case (2 ∷ 8 ∷ 2 ∷ 1 ∷ 6 ∷ 6 ∷ []) [] (0 ∷ 1 ∷ [])
    ∷ case (1 ∷ 9 ∷ 9 ∷ 3 ∷ 9 ∷ 3 ∷ []) [] (1 ∷ 0 ∷ [])
    ∷ refusal (1 ∷ 4 ∷ 4 ∷ 1 ∷ []) [] 1
    ∷ refusal [] [] 2
    ∷ refusal (0 ∷ 4 ∷ 5 ∷ []) [] 3
    ∷ refusal (1 ∷ 4 ∷ 5 ∷ []) [] 13
    ∷ [])

-- the figures of a case: its responses, then zeros
abbrev pub sheet_of : Case → Figures
sheet_of c = record { code = c.code; least = listed (λ i. get_or c.least i 0) tasks_most }

pub record CaseHolds (c : Case) : Type 0 where
  pub holds : figures_by (table_refusal c.tasks c.handlers) (leasts (tasks_of c.tasks) (handlers_of c.handlers)) ≡ sheet_of c
  pub only : (r : Result (List ℕ) Refusal) → ResponsesSay c.tasks c.handlers r → figures r ≡ sheet_of c

abbrev pub EveryCase : List Case → Type 0
EveryCase [] = Unit
EveryCase (c ∷ cs) = CaseHolds c × EveryCase cs
