-- The least lengths of M-103 in finer ticks and in another order (02, M-104), said of the promise of `responses`.
--   responses_times k g   == the figures g of a profile with every least length times k; none, which is 0, stays none
--   FinerResponses       multiplying every cost, period and deadline by k, from 1, gives those figures wherever both tables are in range
--   OwnResponse          reordering tasks of different periods, and handlers at will, keeps each task's own least length
use Rattle.std.specs.Prelude.{List, ◌≡◌, length, get_or, ℕ, ◌≤◌, ◌<◌, Result}
use Rattle.demand.specs.Refusals.{table_refusal}
use Rattle.demand.specs.Rows.{tasks_of, handlers_of}
use Rattle.demand.specs.declared.refusal.Refusal.{Refusal}
use Rattle.priority.specs.Answers.{Figures, figures, ResponsesSay}
use Rattle.units.specs.Finer.{times}
use Rattle.units.specs.Orders.{Shuffled, Exchanged, went_to}

unfoldable pub responses_times : ℕ → Figures → Figures
responses_times k g = record { code = g.code; least = times k g.least }

unfoldable pub FinerResponses : Type 0
FinerResponses =
    (k : ℕ) (t h : List ℕ) (p q : Result (List ℕ) Refusal)
    → 1 ≤ k → table_refusal t h ≡ 0 → table_refusal (times k t) (times k h) ≡ 0
    → ResponsesSay t h p → ResponsesSay (times k t) (times k h) q
    → figures q ≡ responses_times k (figures p)

-- the task at place i is at place went_to e i of the other table; a refused table has no lengths, nor has the other
unfoldable pub OwnResponse : Type 0
OwnResponse =
    (t h t' h' : List ℕ) (p q : Result (List ℕ) Refusal)
    → (e : Exchanged (tasks_of t) (tasks_of t')) → length t ≡ length t'
    → Shuffled (handlers_of h) (handlers_of h') → length h ≡ length h'
    → ResponsesSay t h p → ResponsesSay t' h' q
    → (i : ℕ) → i < length (tasks_of t)
    → get_or (figures p).least i 0 ≡ get_or (figures q).least (went_to e i) 0
