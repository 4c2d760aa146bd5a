-- What a no says of the interval that it names: it is the shortest that fails, and not above H, so not above a thousand million.
use mathlib.Core.List.{List}
use mathlib.Core.Logic.{◌⊎◌, inl, inr}
use mathlib.Core.Path.{◌≡◌, subst}
use native.Mathlib.Omega.{arith}
use Prim.Native.Nat.{ℕ, ◌≤◌, ◌<◌}
use Rattle.demand.specs.declared.refusal.Refusal.{Refusal}
use Rattle.std.specs.Prelude.{Result}
use Rattle.demand.proofs.Divide.{le-or-lt}
use Rattle.demand.proofs.Inside.Sizes.{tasks-valid, handlers-positive}
use Rattle.demand.specs.Limits.{ticks_most}
use Rattle.demand.specs.Refusals.{table_refusal, InRange}
use Rattle.demand.specs.Rows.{Row, Positive, Valid, tasks_of, handlers_of}
use Rattle.verdict.proofs.Facts.Ends.{end-enough, end-le}
use Rattle.verdict.proofs.Lengths.{fits-never-fails}
use Rattle.verdict.proofs.Readable.{readable-in-range, readable-common, readable-table}
use Rattle.verdict.specs.Multiples.{common}
use Rattle.verdict.specs.Lengths.{LeastFailing}
use Rattle.verdict.specs.Promise.{Word, Figures, figures, SaysMisses, SaysBy, Says, VerdictSays}
use Rattle.verdict.specs.Promise.Word.{misses}
use Rattle.verdict.specs.declared.Answer.{Answer}

-- Figures whose word is misses name the shortest interval that fails.
pub says-misses : (t h : List ℕ) (g : Figures) → g.word ≡ misses → Says t h g → SaysMisses t h g
unfolding Says SaysBy
says-misses t h g e s = subst (λ (w : Word). SaysBy w t h g) e s

-- Were it above H, every length up to H would pass, and so all.
pub least-le-period : (ts hs : List Row) (l : ℕ) → InRange ts hs → LeastFailing ts hs l → l ≤ common ts hs
least-le-period ts hs l fair shortest = go (le-or-lt l (common ts hs))
  where
    go : (l ≤ common ts hs) ⊎ (common ts hs < l) → l ≤ common ts hs
    go (inl short) = short
    go (inr long) = absurd (fits-never-fails ts hs l (end-enough ts hs fair (λ m from within. shortest.least m from (omega (arith, end-le ts hs)))) shortest)

module _ (t h : List ℕ) (r : Result Answer Refusal) (says : VerdictSays t h r) (word : (figures r).word ≡ misses) where
  saying : SaysMisses t h (figures r)
  unfolding VerdictSays
  saying = says-misses t h (figures r) word says

  pub named_table : table_refusal t h ≡ 0
  named_table = readable-table t h saying.readable

  pub named-valid : Valid (tasks_of t)
  named-valid = tasks-valid t h named_table

  pub named-positive : Positive (handlers_of h)
  named-positive = handlers-positive t h named_table

  pub named-shortest : LeastFailing (tasks_of t) (handlers_of h) (figures r).interval
  named-shortest = saying.shortest

  pub named-soon : (figures r).interval ≤ ticks_most
  named-soon =
      omega (
        arith,
        least-le-period (tasks_of t) (handlers_of h) (figures r).interval (readable-in-range t h saying.readable) named-shortest,
        readable-common t h saying.readable,
      )
