-- One cost of a table changed: the rows, the count, the periods and the deadlines that it keeps, and that it stays readable.
use mathlib.Core.Bool.{false}
use mathlib.Core.List.{List, [], ◌∷◌}
use mathlib.Core.Path.{◌≡◌, refl, ap, ◌∙◌}
use native.Mathlib.Omega.{arith}
use Prim.Native.Nat.{ℕ, zero, suc, ◌*◌, ◌≤◌}
use lib.ListN.{length, length-set}
use lib.Seq.{set-get_or}
use Rattle.demand.specs.Lighter.{Eased, Lighter}
use Rattle.demand.specs.Lighter.Lighter.{none, eased}
use Rattle.demand.specs.Multiples.{lcm_from}
use Rattle.demand.specs.Refusals.{row_outside, deadline_outside, table_tests, table_refusal, Fair, FairRow, InRange}
use Rattle.demand.specs.Rows.{Row, tasks_of, handlers_of, some, Each}
use Rattle.demand.proofs.Refusals.{row_inside}
use Rattle.euclid.specs.Euclid.{lcm}
use Rattle.trim.specs.Costs.{cost_at, with_cost, repriced, CostAlone, PresentKept, CostIs}
use Rattle.verdict.specs.Multiples.{common}
use Rattle.verdict.specs.Promise.{verdict_refusal}
use Rattle.verdict.proofs.Readable.{readable-table, readable-in-range, readable-common, readable-zero}

-- ---- the lent list

three : (n : ℕ) → 3 * suc n ≡ suc (suc (suc (3 * n)))
three n = omega arith

-- A row of the lent list is repriced, no other.
pub with_rows : CostAlone
unfolding with_cost repriced tasks_of
with_rows [] i c = refl
with_rows (a ∷ []) zero c = refl
with_rows (a ∷ []) (suc i) c = rw (three i)
with_rows (a ∷ p ∷ []) zero c = refl
with_rows (a ∷ p ∷ []) (suc i) c = rw (three i)
with_rows (a ∷ p ∷ d ∷ t) zero c = refl
with_rows (a ∷ p ∷ d ∷ t) (suc i) c =
    rw (three i) (ap (λ (rs : List Row). record { cost = a; period = p; deadline = d } ∷ rs) (with_rows t i c))

pub with-present : PresentKept
unfolding with_cost cost_at
with-present t i = set-get_or t (3 * i) 0

pub cost-is : CostIs
unfolding cost_at tasks_of
cost-is [] i h = absurd (omega arith)
cost-is (a ∷ []) i h = absurd (omega arith)
cost-is (a ∷ p ∷ []) i h = absurd (omega arith)
cost-is (a ∷ p ∷ d ∷ t) zero h = refl
cost-is (a ∷ p ∷ d ∷ t) (suc i) h = rw (three i) (cost-is t i (omega arith))

pub with-length : (t : List ℕ) (i c : ℕ) → length (with_cost t i c) ≡ length t
unfolding with_cost
with-length t i c = length-set t (3 * i) c

-- ---- the rows

pub repriced-length : (rs : List Row) (i c : ℕ) → length (repriced rs i c) ≡ length rs
unfolding repriced
repriced-length [] i c = refl
repriced-length (r ∷ rs) zero c = refl
repriced-length (r ∷ rs) (suc i) c = ap suc (repriced-length rs i c)

-- The least common multiple asks for periods only,
repriced-lcm : (rs : List Row) (i c a : ℕ) → lcm_from a (repriced rs i c) ≡ lcm_from a rs
unfolding repriced lcm_from
repriced-lcm [] i c a = refl
repriced-lcm (r ∷ rs) zero c a = refl
repriced-lcm (r ∷ rs) (suc i) c a = repriced-lcm rs i c (lcm a r.period)

-- and 13 for periods and deadlines.
repriced-deadlines : (rs : List Row) (i c : ℕ) → some deadline_outside (repriced rs i c) ≡ some deadline_outside rs
unfolding repriced some
repriced-deadlines [] i c = refl
repriced-deadlines (r ∷ rs) zero c = refl
repriced-deadlines (r ∷ rs) (suc i) c = rw (repriced-deadlines rs i c)

repriced-fair : (rs : List Row) (i c : ℕ) → Fair c → Each FairRow rs → Each FairRow (repriced rs i c)
unfolding repriced
repriced-fair [] i c fair all = tt
repriced-fair (r ∷ rs) zero c fair all = (record { cost = fair; period = all.0.period }, all.1)
repriced-fair (r ∷ rs) (suc i) c fair all = (all.0, repriced-fair rs i c fair all.1)

fair-none : (rs : List Row) → Each FairRow rs → some row_outside rs ≡ false
unfolding some
fair-none [] all = refl
fair-none (r ∷ rs) all = rw (row_inside r all.0) (fair-none rs all.1)

-- A lower cost is lighter.
pub lighter-same : (rs : List Row) → Lighter rs rs
lighter-same [] = none
lighter-same (r ∷ rs) =
    let same : Eased r r = record { cost = omega arith; period = omega arith; deadline = omega arith } in
    eased {r = r} {q = r} same (lighter-same rs)

repriced-lighter : (rs : List Row) (i b c : ℕ) → b ≤ c → Lighter (repriced rs i b) (repriced rs i c)
unfolding repriced
repriced-lighter [] i b c less = none
repriced-lighter (r ∷ rs) zero b c less =
    let low : Row = record { cost = b; period = r.period; deadline = r.deadline } in
    let high : Row = record { cost = c; period = r.period; deadline = r.deadline } in
    let less' : Eased low high = record { cost = less; period = omega arith; deadline = omega arith } in
    eased {r = low} {q = high} less' (lighter-same rs)
repriced-lighter (r ∷ rs) (suc i) b c less =
    let same : Eased r r = record { cost = omega arith; period = omega arith; deadline = omega arith } in
    eased {r = r} {q = r} same (repriced-lighter rs i b c less)

pub with-lighter : (t : List ℕ) (i b c : ℕ) → b ≤ c → Lighter (tasks_of (with_cost t i b)) (tasks_of (with_cost t i c))
with-lighter t i b c less = rw (with_rows t i b, with_rows t i c) (repriced-lighter (tasks_of t) i b c less)

-- ---- the table

module _ (t h : List ℕ) (i c : ℕ) (readable : verdict_refusal t h ≡ 0) (fair : Fair c) where
  was : InRange (tasks_of t) (handlers_of h)
  was = readable-in-range t h readable

  -- The counts, the periods and the deadlines are the same, and the new cost is in range.
  table-with : table_refusal (with_cost t i c) h ≡ table_refusal t h
  unfolding table_refusal table_tests
  table-with =
      rw (
        with-length t i c,
        with_rows t i c,
        repriced-length (tasks_of t) i c,
        repriced-deadlines (tasks_of t) i c,
        fair-none (tasks_of t) was.tasks,
        fair-none (repriced (tasks_of t) i c) (repriced-fair (tasks_of t) i c fair was.tasks),
      )

  common-with : common (tasks_of (with_cost t i c)) (handlers_of h) ≡ common (tasks_of t) (handlers_of h)
  unfolding common
  common-with = rw (with_rows t i c, repriced-lcm (tasks_of t) i c 1)

  -- So it is as readable.
  pub readable-with : verdict_refusal (with_cost t i c) h ≡ 0
  readable-with =
      readable-zero (with_cost t i c) h (table-with ∙ readable-table t h readable) (omega (arith, common-with, readable-common t h readable))
