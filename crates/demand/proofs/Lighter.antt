-- Under less: A, f and D are lower at every length, so what passed still passes.
use mathlib.Core.List.{List}
use native.Mathlib.Nat.{mul-le-mul}
use native.Mathlib.Omega.{arith}
use Prim.Native.Nat.{ℕ, suc, ◌≤◌, ◌<◌}
use Rattle.demand.specs.Demands.{called_by, due_by, called, handled, due, Passes}
use Rattle.demand.specs.Lighter.{Eased, Lighter}
use Rattle.demand.specs.Lighter.Lighter.{none, dropped, eased}
use Rattle.demand.specs.Rows.{Row, total, Positive}
use Rattle.demand.proofs.Divide.{ceil-longer, within-le}
use Rattle.demand.proofs.Taken.{taken_mono}

-- Any figure that an eased row has no more of.
pub total-lighter : (g : Row → ℕ) → ((r q : Row) → 0 < q.period → Eased r q → g r ≤ g q) → {rs qs : List Row} → Positive qs → Lighter rs qs → total g rs ≤ total g qs
unfolding total
total-lighter g row pos none = omega arith
total-lighter g row pos (dropped w) = omega (arith, total-lighter g row pos.1 w)
total-lighter g row pos (eased {r = r} {q = q} e w) = omega (arith, row r q pos.0 e, total-lighter g row pos.1 w)

pub called-lighter : (l : ℕ) {rs qs : List Row} → Positive qs → Lighter rs qs → called rs l ≤ called qs l
unfolding called
called-lighter l pos w = total-lighter (called_by l) (λ r q p e. mul-le-mul e.cost (ceil-longer r.period q.period l p e.period)) pos w

pub handled-lighter : (l : ℕ) {rs qs : List Row} → Positive qs → Lighter rs qs → handled rs l ≤ handled qs l
unfolding handled
handled-lighter l {rs} {qs} pos w = taken_mono (called rs) (called qs) (λ m. called-lighter (suc m) pos w) l

pub due-lighter : (l : ℕ) {rs qs : List Row} → Positive qs → Lighter rs qs → due rs l ≤ due qs l
unfolding due
due-lighter l pos w = total-lighter (due_by l) row pos w
  where
    row : (r q : Row) → 0 < q.period → Eased r q → due_by l r ≤ due_by l q
    row r q p e =
        mul-le-mul e.cost (within-le l l r.deadline q.deadline r.period q.period p (omega arith) e.period e.deadline)

pub passes-lighter : (l : ℕ) {ts hs ts' hs' : List Row} → Positive ts' → Positive hs' → Lighter ts ts' → Lighter hs hs' → Passes ts' hs' l → Passes ts hs l
passes-lighter l pt ph wt wh passes = omega (arith, handled-lighter l ph wh, due-lighter l pt wt)
