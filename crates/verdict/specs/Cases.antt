-- Cases 1 to 12 (01, "Sums done by hand"), and cases with short deadlines (02, M-101): one list, one statement.
--   Fact              == what 01 tells beside a sheet: A(l), f(l), A(l) - f(l), the margin at l, or H
--   Case              == a table, the figures of its sheet and what is told beside it
--   cases             == the twelve, then the short ones
--   dye_house          == the table of M-100, whose load is the first above one million
--   CaseHolds c       the verdict's promise holds of these figures, whatever it allows has them, and what is told beside them is so
--   EveryCase cs      each case of the list holds
use Rattle.std.specs.Prelude.{List, [], ◌∷◌, ◌≡◌, ℕ, ℤ, negsuc, Result}
use Rattle.demand.specs.Demands.{called, handled, left, margin}
use Rattle.demand.specs.Rows.{Row, tasks_of, handlers_of}
use Rattle.demand.specs.declared.refusal.Refusal.{Refusal}
use Rattle.verdict.specs.Multiples.{common}
use Rattle.verdict.specs.Promise.{Figures, figures, yes_of, no_of, refusal_of, Says, VerdictSays}
use Rattle.verdict.specs.Tested.{tested}
use Rattle.verdict.specs.declared.Answer.{Answer}

pub data Fact : Type 0 where
  calls : ℕ → ℕ → Fact
  takes : ℕ → ℕ → Fact
  leaves : ℕ → ℕ → Fact
  margins : ℕ → ℤ → Fact
  meets : ℕ → Fact

pub record Case : Type 0 where
  pub tasks : List ℕ
  pub handlers : List ℕ
  pub sheet : Figures
  pub beside : List Fact

abbrev yes : ℕ → ℕ → Figures
yes load tested = yes_of load tested

-- in the line's order
abbrev no : ℕ → ℕ → ℕ → ℕ → ℕ → ℕ → Figures
no l f d load over count = no_of (record { interval = l; handler = f; task = d; left = over; tested = count }) load

abbrev refusal : ℕ → Figures
refusal code = refusal_of code

abbrev case : List ℕ → List ℕ → Figures → Case
case t h g = record { tasks = t; handlers = h; sheet = g; beside = [] }

-- a case with what is told beside it
abbrev told : List ℕ → List ℕ → Figures → List Fact → Case
told t h g fs = record { tasks = t; handlers = h; sheet = g; beside = fs }

-- the same table with three numbers for each task: the deadline is the period
unfoldable pub plain : List ℕ → List ℕ
plain [] = []
plain (c ∷ []) = []
plain (c ∷ p ∷ t) = c ∷ p ∷ p ∷ plain t

-- Deadlines before the next arrival: half the load and yet two jobs for one tick; the same two tasks with later deadlines;
-- a length that is no multiple of a period; a length that only the bound with short deadlines admits (5 * 9 is above 1 * 20);
-- a yes; and refusal 13 with those that come before and after it.
abbrev short : List Case
short =
    case (1 ∷ 4 ∷ 1 ∷ 1 ∷ 4 ∷ 1 ∷ []) [] (no 1 0 2 500000 0 1)
    ∷ case (1 ∷ 4 ∷ 1 ∷ 1 ∷ 4 ∷ 2 ∷ []) [] (yes 500000 2)
    ∷ case (2 ∷ 5 ∷ 3 ∷ 2 ∷ 7 ∷ 4 ∷ []) (1 ∷ 10 ∷ []) (no 4 1 4 785715 0 2)
    ∷ case (2 ∷ 10 ∷ 3 ∷ 3 ∷ 10 ∷ 5 ∷ []) (1 ∷ 20 ∷ []) (no 5 1 5 550000 0 2)
    ∷ case (1 ∷ 4 ∷ 2 ∷ 1 ∷ 4 ∷ 3 ∷ []) (1 ∷ 10 ∷ []) (yes 600000 2)
    ∷ case (1 ∷ 4 ∷ 0 ∷ []) [] (refusal 13)
    ∷ case (1 ∷ 4 ∷ 5 ∷ []) [] (refusal 13)
    ∷ case (0 ∷ 4 ∷ 5 ∷ []) [] (refusal 3)
    ∷ case (1 ∷ 1001 ∷ 1002 ∷ 1 ∷ 1000000 ∷ 1 ∷ []) [] (refusal 13)
    ∷ case (1 ∷ 4 ∷ 4 ∷ 1 ∷ []) [] (refusal 1)
    ∷ []

-- A handler longer than the interval that fails leaves work over (02, M-106).
abbrev left_over : Case
left_over = told (plain (1 ∷ 2 ∷ [])) (5 ∷ 10 ∷ []) (no 2 2 1 1000000 3 1) (calls 2 5 ∷ takes 2 2 ∷ leaves 2 3 ∷ [])

unfoldable pub cases : List Case
cases =
    case (plain (1 ∷ 10 ∷ 1 ∷ 10 ∷ 1 ∷ 10 ∷ 1 ∷ 10 ∷ 1 ∷ 10 ∷ 1 ∷ 10 ∷ 1 ∷ 10 ∷ 1 ∷ 10 ∷ 1 ∷ 10 ∷ 1 ∷ 10 ∷ [])) [] (yes 1000000 1)
    ∷ told (plain (2 ∷ 4 ∷ [])) (1 ∷ 2 ∷ []) (yes 1000000 1) (takes 4 2 ∷ [])
    ∷ told (plain (1 ∷ 4 ∷ [])) (2 ∷ 3 ∷ []) (yes 916667 0) (takes 4 3 ∷ calls 4 4 ∷ leaves 4 1 ∷ [])
    ∷ case (plain (2 ∷ 4 ∷ [])) (2 ∷ 3 ∷ []) (no 4 3 2 1166667 1 1)
    ∷ case (plain (1 ∷ 2 ∷ [])) (2 ∷ 10 ∷ []) (no 2 2 1 700000 0 1)
    ∷ case (plain (1 ∷ 3 ∷ [])) (2 ∷ 10 ∷ []) (yes 533334 1)
    ∷ told (plain (2 ∷ 4 ∷ [])) (1 ∷ 4 ∷ 1 ∷ 4 ∷ []) (yes 1000000 1) (takes 1 1 ∷ takes 2 2 ∷ [])
    ∷ case (plain (1 ∷ 1 ∷ [])) (1 ∷ 1000000 ∷ []) (no 1 1 1 1000001 0 1)
    ∷ told (plain (2 ∷ 5 ∷ 4 ∷ 8 ∷ [])) (1 ∷ 4 ∷ []) (no 10 3 8 1150000 0 3) (margins 10 (negsuc 0) ∷ [])
    ∷ case (plain (3 ∷ 2 ∷ [])) [] (no 2 0 3 1500000 0 1)
    ∷ told (plain (1 ∷ 1000 ∷ 1 ∷ 999999 ∷ [])) [] (yes 1002 0) (meets 999999000 ∷ [])
    ∷ case (plain (1 ∷ 1001 ∷ 1 ∷ 1000000 ∷ [])) [] (refusal 4)
    ∷ left_over
    ∷ short

-- its count, too long to be found here by counting, is left as the definition has it
unfoldable pub dye_house : Case
dye_house =
    let t = plain (999 ∷ 1000 ∷ 1000 ∷ 999999 ∷ []) in
    case t [] (no 999999000 0 999999001 1000001 0 (tested (tasks_of t) 999999000))

abbrev pub FactHolds : List Row → List Row → Fact → Type 0
FactHolds ts hs (calls l n) = called hs l ≡ n
FactHolds ts hs (takes l n) = handled hs l ≡ n
FactHolds ts hs (leaves l n) = left hs l ≡ n
FactHolds ts hs (margins l z) = margin ts hs l ≡ z
FactHolds ts hs (meets n) = common ts hs ≡ n

abbrev pub EveryFact : List Row → List Row → List Fact → Type 0
EveryFact ts hs [] = Unit
EveryFact ts hs (f ∷ fs) = FactHolds ts hs f × EveryFact ts hs fs

pub record CaseHolds (c : Case) : Type 0 where
  pub holds : Says c.tasks c.handlers c.sheet
  pub only : (r : Result Answer Refusal) → VerdictSays c.tasks c.handlers r → figures r ≡ c.sheet
  pub facts : EveryFact (tasks_of c.tasks) (handlers_of c.handlers) c.beside

abbrev pub EveryCase : List Case → Type 0
EveryCase [] = Unit
EveryCase (c ∷ cs) = CaseHolds c × EveryCase cs
