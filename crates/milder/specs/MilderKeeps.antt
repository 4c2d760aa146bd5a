-- A milder guard keeps a yes (02, M-107): "lowering N or any measured cost in a guard, its gap kept, never turns a yes into a no".
--   HoldsRows h i j a b p   the handlers at places i and j of the lent list h are a/p and b/p
--   OthersKept h h' i j     h' has as many numbers as h, and the same handlers at all other places
--   MilderKeeps             a table that holds the two rows of a guard among its handlers, wherever they stand, and fits, fits too with the
--                           rows of a milder guard in their place: no answer but a yes is allowed on it, so it is readable too
use Rattle.std.specs.Prelude.{List, ◌≡◌, ℕ, length, Result}
use Rattle.demand.specs.Rows.{row_at, handlers_of}
use Rattle.demand.specs.declared.refusal.Refusal.{Refusal}
use Rattle.guards.specs.Answers.{RowsSay, rows_told}
use Rattle.guards.specs.Guards.{handler_row}
use Rattle.guards.specs.declared.Guard.{Guard}
use Rattle.verdict.specs.Promise.{figures, VerdictSays}
use Rattle.verdict.specs.Promise.Word.{fits}
use Rattle.verdict.specs.declared.Answer.{Answer}
use Rattle.milder.specs.Milder.{Milder}

pub record HoldsRows (h : List ℕ) (i j a b p : ℕ) : Type 0 where
  pub interrupt : row_at (handlers_of h) i ≡ handler_row a p
  pub timer : row_at (handlers_of h) j ≡ handler_row b p

pub record OthersKept (h h' : List ℕ) (i j : ℕ) : Type 0 where
  pub count : length h' ≡ length h
  pub others : (k : ℕ) → (k ≡ i → ⊥) → (k ≡ j → ⊥) → row_at (handlers_of h') k ≡ row_at (handlers_of h) k

-- the guard g, whose rows a/p and b/p the table t, h holds, and the milder g', whose rows a'/p' and b'/p' the table t, h' holds
unfoldable pub MilderKeeps : Type 0
MilderKeeps =
    (g g' : Guard) (a b p a' b' p' : ℕ) (t h h' : List ℕ) (i j : ℕ) (r r' : Result Answer Refusal)
    → RowsSay g (rows_told a b p) → RowsSay g' (rows_told a' b' p') → Milder g' g
    → HoldsRows h i j a b p → HoldsRows h' i j a' b' p' → OthersKept h h' i j
    → VerdictSays t h r → (figures r).word ≡ fits
    → VerdictSays t h' r' → (figures r').word ≡ fits
