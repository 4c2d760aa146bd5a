-- A table with costs of handlers cut and their periods kept: its refusal, and that what passed still passes.
--   CutRow r q    the row r is q with a cost in range that is no greater
--   Cut rs qs     so is each row of rs, of as many
use mathlib.Core.Bool.{false}
use mathlib.Core.List.{List, [], ◌∷◌}
use mathlib.Core.Path.{◌≡◌, refl, ap, sym, ◌∙◌}
use native.Mathlib.Omega.{arith}
use lib.ListN.{length}
use Prim.Native.Nat.{ℕ, suc, ◌/◌, ◌≤◌, ◌<◌}
use Rattle.demand.specs.Lighter.{Eased, Lighter}
use Rattle.demand.specs.Lighter.Lighter.{none, eased}
use Rattle.demand.specs.Multiples.{lcm_from}
use Rattle.demand.specs.Refusals.{row_outside, table_tests, table_refusal, Fair, FairRow, InRange}
use Rattle.demand.specs.Rows.{Row, row_at, tasks_of, handlers_of, some, Each}
use Rattle.demand.specs.declared.table.Kind.TheVariants.{Handler}
use Rattle.demand.proofs.Inside.Sizes.{fair-positive}
use Rattle.demand.proofs.Inside.Slices.{rows-count}
use Rattle.demand.proofs.Refusals.{row_inside}
use Rattle.euclid.specs.Euclid.{lcm}
use Rattle.verdict.specs.Lengths.{AlwaysPasses}
use Rattle.verdict.specs.Multiples.{common}
use Rattle.verdict.specs.Promise.{verdict_refusal}
use Rattle.verdict.proofs.Lightening.{always-lighter}
use Rattle.verdict.proofs.Readable.{readable-table, readable-in-range, readable-common, readable-zero}

pub record CutRow (r q : Row) : Type 0 where
  pub fair : Fair r.cost
  pub cost : r.cost ≤ q.cost
  pub period : r.period ≡ q.period
  pub deadline : r.deadline ≡ q.deadline

pub record Cut (rs qs : List Row) : Type 0 where
  pub count : length rs ≡ length qs
  pub rows : (k : ℕ) → k < length qs → CutRow (row_at rs k) (row_at qs k)

-- ---- rows

-- The rows behind the first are cut too.
cut-rest : {r q : Row} {rs qs : List Row} → Cut (r ∷ rs) (q ∷ qs) → Cut rs qs
cut-rest c = record { count = omega (arith, c.count); rows = λ k h. c.rows (suc k) (omega arith) }

-- They are lighter,
pub cut-lighter : (rs qs : List Row) → Cut rs qs → Lighter rs qs
cut-lighter [] [] c = none
cut-lighter [] (q ∷ qs) c = absurd (omega (arith, c.count))
cut-lighter (r ∷ rs) [] c = absurd (omega (arith, c.count))
cut-lighter (r ∷ rs) (q ∷ qs) c =
    let here : CutRow r q = c.rows 0 (omega arith) in
    eased {r = r} {q = q}
    (record { cost = here.cost; period = omega (arith, here.period); deadline = omega (arith, here.deadline) })
    (cut-lighter rs qs (cut-rest c))

-- in range,
pub cut-fair : (rs qs : List Row) → Cut rs qs → Each FairRow qs → Each FairRow rs
cut-fair [] qs c all = tt
cut-fair (r ∷ rs) [] c all = absurd (omega (arith, c.count))
cut-fair (r ∷ rs) (q ∷ qs) c all =
    let here : CutRow r q = c.rows 0 (omega arith) in
    (record { cost = here.fair; period = rw here.period all.0.period }, cut-fair rs qs (cut-rest c) all.1)

-- and of the same least common multiple.
pub cut-lcm : (rs qs : List Row) (a : ℕ) → Cut rs qs → lcm_from a rs ≡ lcm_from a qs
unfolding lcm_from
cut-lcm [] [] a c = refl
cut-lcm [] (q ∷ qs) a c = absurd (omega (arith, c.count))
cut-lcm (r ∷ rs) [] a c = absurd (omega (arith, c.count))
cut-lcm (r ∷ rs) (q ∷ qs) a c =
    let here : CutRow r q = c.rows 0 (omega arith) in
    rw here.period (cut-lcm rs qs (lcm a q.period) (cut-rest c))

-- Rows that stay are no heavier.
lighter-same : (rs : List Row) → Lighter rs rs
lighter-same [] = none
lighter-same (r ∷ rs) =
    let same : Eased r r = record { cost = omega arith; period = omega arith; deadline = omega arith } in
    eased {r = r} {q = r} same (lighter-same rs)

-- Rows in range meet no refusal 3.
fair-none : (rs : List Row) → Each FairRow rs → some row_outside rs ≡ false
unfolding some
fair-none [] all = refl
fair-none (r ∷ rs) all = rw (row_inside r all.0) (fair-none rs all.1)

-- As many numbers are as many handlers.
pub handlers-count : (h h' : List ℕ) → length h' ≡ length h → length (handlers_of h') ≡ length (handlers_of h)
handlers-count h h' same = rows-count Handler h' ∙ ap (λ (n : ℕ). n / 2) same ∙ sym (rows-count Handler h)

-- ---- the table

module _ (t h h' : List ℕ) (readable : verdict_refusal t h ≡ 0) (same : length h' ≡ length h) (c : Cut (handlers_of h') (handlers_of h)) where
  was : InRange (tasks_of t) (handlers_of h)
  was = readable-in-range t h readable

  -- It is as readable: the counts, the periods and the tasks are the same, and the costs are in range.
  table-cut : table_refusal t h' ≡ table_refusal t h
  unfolding table_refusal table_tests
  table-cut =
      rw (
        same,
        c.count,
        fair-none (handlers_of h) was.handlers,
        fair-none (handlers_of h') (cut-fair (handlers_of h') (handlers_of h) c was.handlers),
      )

  common-cut : common (tasks_of t) (handlers_of h') ≡ common (tasks_of t) (handlers_of h)
  unfolding common
  common-cut = cut-lcm (handlers_of h') (handlers_of h) (lcm_from 1 (tasks_of t)) c

  pub readable-cut : verdict_refusal t h' ≡ 0
  readable-cut = readable-zero t h' (table-cut ∙ readable-table t h readable) (omega (arith, common-cut, readable-common t h readable))

  -- And it passes wherever the old one did.
  pub always-cut : AlwaysPasses (tasks_of t) (handlers_of h) → AlwaysPasses (tasks_of t) (handlers_of h')
  always-cut passes =
      always-lighter
      (fair-positive (tasks_of t) was.tasks)
      (fair-positive (handlers_of h) was.handlers)
      (lighter-same (tasks_of t))
      (cut-lighter (handlers_of h') (handlers_of h) c)
      passes
