-- The same board with its rows in another order (02, M-104), said of the verdict's own promise.
--   OtherOrder   reordering rows within tasks or within handlers changes no answer, a refusal neither
use Rattle.std.specs.Prelude.{List, ◌≡◌, length, ℕ, Result}
use Rattle.demand.specs.Rows.{tasks_of, handlers_of}
use Rattle.demand.specs.declared.refusal.Refusal.{Refusal}
use Rattle.verdict.specs.Promise.{VerdictSays}
use Rattle.verdict.specs.declared.Answer.{Answer}
use Rattle.units.specs.Orders.{Shuffled}

-- lists of equal length: what is no row, at the end, is as much
unfoldable pub OtherOrder : Type 0
OtherOrder =
    (t h t' h' : List ℕ) (r s : Result Answer Refusal)
    → Shuffled (tasks_of t) (tasks_of t') → length t ≡ length t'
    → Shuffled (handlers_of h) (handlers_of h') → length h ≡ length h'
    → VerdictSays t h r → VerdictSays t' h' s
    → r ≡ s
