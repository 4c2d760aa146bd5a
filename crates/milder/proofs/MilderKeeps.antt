-- M-107 (specs/MilderKeeps): the handlers of the new table are those of the old one with two costs cut.
use mathlib.Core.Bool.{Bool, true, false}
use mathlib.Core.List.{List}
use mathlib.Core.Path.{◌≡◌, refl}
use native.Mathlib.Omega.{arith}
use borrow.Author.Tests.{eqb-true, eqb-false}
use lib.Dec.{eqb}
use lib.ListN.{length}
use Prim.Native.Nat.{ℕ, ◌≤◌, ◌<◌}
use Rattle.demand.specs.Refusals.{FairRow, Fair}
use Rattle.demand.specs.Rows.{Row, row_at, handlers_of, Each}
use Rattle.demand.proofs.Inside.Places.{each_at}
use Rattle.guards.specs.Guards.{handler_row}
use Rattle.verdict.specs.Promise.{figures, SaysFits, VerdictSays}
use Rattle.verdict.proofs.Lightening.{says-fits, only-fits}
use Rattle.verdict.proofs.Readable.{readable-in-range}
use Rattle.milder.specs.MilderKeeps.{HoldsRows, OthersKept, MilderKeeps}
use Rattle.milder.proofs.Cut.{CutRow, Cut, handlers-count, readable-cut, always-cut}
use Rattle.milder.proofs.Milder.{Costs, rows-cost, cost-milder}

-- Two rows of one period, the first of a lower cost that is in range.
row_cut : {r q : Row} (a' a p : ℕ) → r ≡ handler_row a' p → q ≡ handler_row a p → Fair a' → a' ≤ a → CutRow r q
row_cut a' a p er eq fair less = rw (er, eq) (record { fair = fair; cost = less; period = refl; deadline = refl })

-- A row that stays, and is in range.
row_kept : {r q : Row} → r ≡ q → FairRow q → CutRow r q
row_kept {q = q} e fair = rw e (record { fair = fair.cost; cost = omega arith; period = refl; deadline = refl })

-- Where two handlers have their costs cut and all others stay, all are cut.
pub rows_cut : (h h' : List ℕ) (i j a b a' b' p : ℕ)
    → HoldsRows h i j a b p → HoldsRows h' i j a' b' p → OthersKept h h' i j
    → Fair a' → Fair b' → a' ≤ a → b' ≤ b → Each FairRow (handlers_of h) → Cut (handlers_of h') (handlers_of h)
rows_cut h h' i j a b a' b' p was is kept fair-a fair-b less-a less-b fair = record {
  count = handlers-count h h' kept.count;
  rows = λ k below. at k below (eqb k i) refl (eqb k j) refl;
}
  where
    at : (k : ℕ) → k < length (handlers_of h) → (x : Bool) → eqb k i ≡ x → (y : Bool) → eqb k j ≡ y
        → CutRow (row_at (handlers_of h') k) (row_at (handlers_of h) k)
    at k below true ei y ej = rw (eqb-true k i ei) (row_cut a' a p is.interrupt was.interrupt fair-a less-a)
    at k below false ei true ej = rw (eqb-true k j ej) (row_cut b' b p is.timer was.timer fair-b less-b)
    at k below false ei false ej =
        row_kept (kept.others k (eqb-false k i ei) (eqb-false k j ej)) (each_at FairRow (handlers_of h) fair k below)

-- Costs no greater, in range, and the same gap: the new table is readable and passes wherever the old one did.
pub milder-keeps : MilderKeeps
unfolding MilderKeeps VerdictSays
milder-keeps g g' a b p a' b' p' t h h' i j r r' says says' milder holds holds' kept told word told' =
    let old : Costs g a b p = rows-cost g a b p says in
    let new : Costs g' a' b' p' = rows-cost g' a' b' p' says' in
    let less = cost-milder g' g milder in
    let gap : p' ≡ p = omega (arith, old.period, new.period, milder.gap) in
    let was : SaysFits t h (figures r) = says-fits t h (figures r) word told in
    let cut : Cut (handlers_of h') (handlers_of h) =
    rows_cut h h' i j a b a' b' p holds (rw gap at holds') kept new.fair.0.cost new.fair.1.cost
    (omega (arith, less.0, old.interrupt, new.interrupt))
    (omega (arith, less.1, old.timer, new.timer))
    (readable-in-range t h was.readable).handlers in
    only-fits t h' (figures r')
    (readable-cut t h h' was.readable kept.count cut)
    (always-cut t h h' was.readable kept.count cut was.passes)
    told'
