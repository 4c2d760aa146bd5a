-- Schedules judged by hand, the ten ticks of 01's case 13 among them: one list, one statement.
--   Case           == a table, segments, a span and the figures of the answer
--   cases          == the list
--   CaseHolds c    the promise holds of these figures, and whatever it allows has them
--   EveryCase cs   each case of the list holds
use Rattle.std.specs.Prelude.{List, [], ◌∷◌, ◌++◌, ◌≡◌, ℕ, zero, suc, Result, Option}
use Rattle.demand.specs.declared.refusal.Refusal.{Refusal}
use Rattle.segments.specs.Promise.{Figures, figures, accepted_of, broken_of, refusal_of, Says, JudgeSays}

pub record Case : Type 0 where
  pub tasks : List ℕ
  pub handlers : List ℕ
  pub segments : List ℕ
  pub span : ℕ
  pub told : Figures

abbrev pub case : List ℕ → List ℕ → List ℕ → ℕ → Figures → Case
case t h s L g = record { tasks = t; handlers = h; segments = s; span = L; told = g }

-- A segment of the task at row, and of the handler.
abbrev T : ℕ → ℕ → ℕ → List ℕ
T row from to = 0 ∷ row ∷ from ∷ to ∷ []

abbrev H : ℕ → ℕ → ℕ → List ℕ
H row from to = 1 ∷ row ∷ from ∷ to ∷ []

-- 01's case 9: tasks 2/5 and 4/8, handler 1/4; and its ten ticks of case 13, after which task 0 is late.
abbrev nine_tasks : List ℕ
nine_tasks = 2 ∷ 5 ∷ 5 ∷ 4 ∷ 8 ∷ 8 ∷ []

abbrev nine_handlers : List ℕ
nine_handlers = 1 ∷ 4 ∷ []

abbrev ten_ticks : List ℕ
ten_ticks = H 0 0 1 ++ T 0 1 3 ++ T 1 3 4 ++ H 0 4 5 ++ T 1 5 8 ++ H 0 8 9 ++ T 0 9 10

abbrev nine_ticks : List ℕ
nine_ticks = H 0 0 1 ++ T 0 1 3 ++ T 1 3 4 ++ H 0 4 5 ++ T 1 5 8 ++ H 0 8 9

-- Tasks 1/3 and 2/4, handler 1/6, and our own scheduler's first six ticks; H is 12.
abbrev some_tasks : List ℕ
some_tasks = 1 ∷ 3 ∷ 3 ∷ 2 ∷ 4 ∷ 4 ∷ []

abbrev some_handlers : List ℕ
some_handlers = 1 ∷ 6 ∷ []

abbrev six_ticks : List ℕ
six_ticks = H 0 0 1 ++ T 0 1 2 ++ T 1 2 4 ++ T 0 4 5 ++ T 1 5 6

-- So many segments of task 0, a tick each, from tick a on.
unfoldable pub crowd : ℕ → ℕ → List ℕ
crowd zero a = []
crowd (suc n) a = 0 ∷ 0 ∷ a ∷ suc a ∷ crowd n (suc a)

-- What is accepted: 01's case 13 before task 0 is late, our own scheduler's ticks, a handler that runs while another waits, two jobs of
-- a task in one segment, handlers that take most ticks, a deadline behind the span, and nothing at all before the first deadline.
unfoldable pub accepted_cases : List Case
accepted_cases =
    case nine_tasks nine_handlers nine_ticks 9 accepted_of
    ∷ case some_tasks some_handlers six_ticks 6 accepted_of
    ∷ case some_tasks some_handlers (six_ticks ++ H 0 6 7 ++ T 1 7 8) 8 accepted_of
    ∷ case (2 ∷ 4 ∷ 4 ∷ []) (1 ∷ 4 ∷ 1 ∷ 4 ∷ []) (H 1 0 1 ++ H 0 1 2 ++ T 0 2 4) 4 accepted_of
    ∷ case (2 ∷ 3 ∷ 3 ∷ 1 ∷ 6 ∷ 6 ∷ []) [] (T 1 0 1 ++ T 0 1 5) 6 accepted_of
    ∷ case (1 ∷ 4 ∷ 4 ∷ []) (2 ∷ 3 ∷ []) (H 0 0 2 ++ T 0 2 3 ++ H 0 3 5 ++ T 0 5 6 ++ H 0 6 8 ++ T 0 8 9 ++ H 0 9 11) 12 accepted_of
    ∷ case (2 ∷ 4 ∷ 4 ∷ []) [] (T 0 0 1) 3 accepted_of
    ∷ case (1 ∷ 4 ∷ 4 ∷ []) [] [] 3 accepted_of
    ∷ []

-- Each rule broken, of several ticks the first. Unfinished work: at the span itself, within it, by a short deadline, and under handlers
-- that take every tick. A row that is not owed work: a job before its arrival, a handler's too, and in the last tick. A handler that
-- waits: in the first tick, behind nobody and behind a task, in the last tick, in a gap.
unfoldable pub broken_cases : List Case
broken_cases =
    case nine_tasks nine_handlers ten_ticks 10 (broken_of 10)
    ∷ case nine_tasks nine_handlers ten_ticks 40 (broken_of 10)
    ∷ case (2 ∷ 4 ∷ 4 ∷ []) [] (T 0 0 1) 4 (broken_of 4)
    ∷ case (1 ∷ 4 ∷ 1 ∷ []) [] [] 4 (broken_of 1)
    ∷ case (1 ∷ 4 ∷ 2 ∷ []) [] (T 0 2 3) 4 (broken_of 2)
    ∷ case (1 ∷ 2 ∷ 2 ∷ []) (3 ∷ 2 ∷ []) (H 0 0 2) 2 (broken_of 2)
    ∷ case some_tasks some_handlers (H 0 0 1 ++ T 0 1 2) 5 (broken_of 4)
    ∷ case some_tasks some_handlers (H 0 0 1 ++ T 0 1 3) 4 (broken_of 2)
    ∷ case some_tasks some_handlers (H 0 0 2) 4 (broken_of 1)
    ∷ case (1 ∷ 4 ∷ 4 ∷ []) [] (T 0 0 1 ++ T 0 3 4) 4 (broken_of 3)
    ∷ case (1 ∷ 4 ∷ 4 ∷ 1 ∷ 8 ∷ 8 ∷ []) [] (T 0 0 1 ++ T 1 1 2 ++ T 0 4 6) 8 (broken_of 5)
    ∷ case some_tasks some_handlers [] 4 (broken_of 0)
    ∷ case some_tasks some_handlers (T 0 0 1) 1 (broken_of 0)
    ∷ case some_tasks some_handlers (six_ticks ++ T 1 6 7) 7 (broken_of 6)
    ∷ case some_tasks some_handlers six_ticks 8 (broken_of 6)
    ∷ case (2 ∷ 4 ∷ 4 ∷ []) (1 ∷ 4 ∷ 1 ∷ 4 ∷ []) (H 1 0 1 ++ T 0 1 3) 4 (broken_of 1)
    ∷ []

-- Refusals, each where those that come after it apply too: 1, 2, 3, 13, 4; 16 for a list that is not in fours, an unknown kind, a task
-- and a handler that are not in the table, an empty segment, one that ends before it starts, an overlap, one out of order, one that
-- ends after the span, one too many of them, and a span of 0 that has a segment; 17 for a span of 0 and one above H.
unfoldable pub refused_cases : List Case
refused_cases =
    case (1 ∷ []) (0 ∷ 1001 ∷ []) (T 0 0 1) 0 (refusal_of 1)
    ∷ case [] (0 ∷ 1001 ∷ []) (T 0 0 1) 0 (refusal_of 2)
    ∷ case (0 ∷ 1001 ∷ 1002 ∷ 1 ∷ 1000000 ∷ 1 ∷ []) [] (T 0 0 1) 0 (refusal_of 3)
    ∷ case (1 ∷ 1001 ∷ 1002 ∷ 1 ∷ 1000000 ∷ 1 ∷ []) [] (T 0 0 1) 0 (refusal_of 13)
    ∷ case (1 ∷ 1001 ∷ 1001 ∷ 1 ∷ 1000000 ∷ 1000000 ∷ []) [] (T 0 0 1) 0 (refusal_of 4)
    ∷ case some_tasks some_handlers (H 0 0 1 ++ 0 ∷ []) 13 (refusal_of 16)
    ∷ case some_tasks some_handlers (2 ∷ 0 ∷ 0 ∷ 1 ∷ []) 13 (refusal_of 16)
    ∷ case some_tasks some_handlers (T 2 0 1) 13 (refusal_of 16)
    ∷ case some_tasks some_handlers (H 1 0 1) 13 (refusal_of 16)
    ∷ case some_tasks some_handlers (H 0 1 1) 13 (refusal_of 16)
    ∷ case some_tasks some_handlers (H 0 2 1) 13 (refusal_of 16)
    ∷ case some_tasks some_handlers (H 0 0 2 ++ T 0 1 3) 13 (refusal_of 16)
    ∷ case some_tasks some_handlers (T 0 1 2 ++ H 0 0 1) 13 (refusal_of 16)
    ∷ case some_tasks some_handlers six_ticks 5 (refusal_of 16)
    ∷ case (5000 ∷ 5000 ∷ 5000 ∷ []) [] (crowd 2049 0) 5001 (refusal_of 16)
    ∷ case some_tasks some_handlers (H 0 0 1) 0 (refusal_of 16)
    ∷ case some_tasks some_handlers [] 0 (refusal_of 17)
    ∷ case some_tasks some_handlers (H 0 0 1) 13 (refusal_of 17)
    ∷ []

unfoldable pub cases : List Case
cases = accepted_cases ++ broken_cases ++ refused_cases

pub record CaseHolds (c : Case) : Type 0 where
  pub holds : Says c.tasks c.handlers c.segments c.span c.told
  pub only : (r : Result (Option ℕ) Refusal) → JudgeSays c.tasks c.handlers c.segments c.span r → figures r ≡ c.told

abbrev pub EveryCase : List Case → Type 0
EveryCase [] = Unit
EveryCase (c ∷ cs) = CaseHolds c × EveryCase cs
