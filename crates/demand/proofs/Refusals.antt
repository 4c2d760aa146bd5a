-- Laws of the refusals: what each number says, and what a table without one is.
use mathlib.Core.Bool.{Bool, true, false, ◌||◌}
use mathlib.Core.List.{List, [], ◌∷◌, ◌++◌}
use mathlib.Core.Logic.{◌⊎◌, inl, inr}
use mathlib.Core.Path.{◌≡◌, refl, sym, ◌∙◌}
use native.Mathlib.Nat.{eq-zero-or-pos}
use native.Mathlib.Omega.{arith}
use borrow.Author.Tests.{ltb-false, eqb-false, ne_eqb, le-ltb, lt-ltb}
use Prim.Native.Nat.{ℕ, ◌*◌, ◌%◌, ◌≤◌, ◌<◌}
use lib.Dec.{ltb, eqb}
use lib.ListN.{length}
use Rattle.demand.specs.Limits.{figure_most, tasks_most, handlers_most, ticks_most}
use Rattle.demand.specs.Numbered.{number_of, refusal_at}
use Rattle.demand.specs.Refusals.{uneven, outside, row_outside, deadline_outside, table_tests, table_refusal, asked_refusal, Fair, FairRow, InRange, miscounted}
use Rattle.demand.specs.Rows.{Row, rows_of, width, tasks_of, handlers_of, some, Each, Sound, Valid}
use Rattle.demand.specs.Tests.{pick, first_refusal, NoneHolds}
use Rattle.demand.specs.declared.table.Kind.{Kind}
use Rattle.demand.specs.declared.table.Kind.TheVariants.{Task, Handler}
use Rattle.demand.proofs.Chains.{none_first, first-later, first-earlier}
use Rattle.demand.proofs.Inside.Slices.{rows-count}

-- Neither of two tests holds.
pub neither : (a b : Bool) → (a || b) ≡ false → (a ≡ false) × (b ≡ false)
neither true b e = absurd (let z : ◌≡◌ {A = ℕ} 0 1 = cc in omega arith)
neither false b e = (refl, e)

fair-figure : (x : ℕ) → outside x ≡ false → Fair x
fair-figure x e =
    let n = neither (eqb x 0) (ltb figure_most x) e in
    let some : x ≡ 0 → ⊥ = eqb-false x 0 n.0 in
    record { least = omega arith; most = ltb-false figure_most x n.1 }

pub fair-row : (r : Row) → row_outside r ≡ false → FairRow r
fair-row r e =
    let figures = neither (outside r.cost) (outside r.period) e in
    record { cost = fair-figure r.cost figures.0; period = fair-figure r.period figures.1 }

pub sound-row : (r : Row) → deadline_outside r ≡ false → Sound r
sound-row r e =
    let n = neither (eqb r.deadline 0) (ltb r.period r.deadline) e in
    let some : r.deadline ≡ 0 → ⊥ = eqb-false r.deadline 0 n.0 in
    record { some = omega arith; fits = ltb-false r.period r.deadline n.1 }

-- A test that holds of no row.
none_each : (test : Row → Bool) (P : Row → Type 0) → ((r : Row) → test r ≡ false → P r) → (rs : List Row) → some test rs ≡ false → Each P rs
unfolding some
none_each test P row [] e = tt
none_each test P row (r ∷ rs) e =
    let here = neither (test r) (some test rs) e in
    (row r here.0, none_each test P row rs here.1)

pub fair-rows : (rs : List Row) → some row_outside rs ≡ false → Each FairRow rs
fair-rows rs e = none_each row_outside FairRow fair-row rs e

pub sound-rows : (rs : List Row) → some deadline_outside rs ≡ false → Valid rs
sound-rows rs e = none_each deadline_outside Sound sound-row rs e

-- And the reverse.
figure-inside : (x : ℕ) → Fair x → outside x ≡ false
figure-inside x f = rw (ne_eqb x 0 (λ z. omega (arith, f.least)), le-ltb figure_most x f.most)

pub row_inside : (r : Row) → FairRow r → row_outside r ≡ false
row_inside r f = rw (figure-inside r.cost f.cost, figure-inside r.period f.period)

pub deadline-inside : (r : Row) → Sound r → deadline_outside r ≡ false
deadline-inside r s = rw (ne_eqb r.deadline 0 (λ z. omega (arith, s.some)), le-ltb r.period r.deadline s.fits)

-- ---- what a table without a refusal of its own is

table_none : (t h : List ℕ) → table_refusal t h ≡ 0 → NoneHolds (table_tests t h)
unfolding table_refusal table_tests
table_none t h e = none_first (table_tests t h) refl e

-- Every figure is in its range,
pub refusal-in-range : (t h : List ℕ) → table_refusal t h ≡ 0 → InRange (tasks_of t) (handlers_of h)
unfolding table_tests
refusal-in-range t h e =
    let (counts, (rows, (figures, (deadlines, _)))) = table_none t h e in
    let tasks = neither (eqb (length (tasks_of t)) 0 || ltb tasks_most (length (tasks_of t))) (ltb handlers_most (length (handlers_of h))) rows in
    let few = neither (eqb (length (tasks_of t)) 0) (ltb tasks_most (length (tasks_of t))) tasks.0 in
    let fair = neither (some row_outside (tasks_of t)) (some row_outside (handlers_of h)) figures in
    let one : length (tasks_of t) ≡ 0 → ⊥ = eqb-false (length (tasks_of t)) 0 few.0 in
    record {
      tasks = fair-rows (tasks_of t) fair.0;
      handlers = fair-rows (handlers_of h) fair.1;
      deadlines = sound-rows (tasks_of t) deadlines;
      some-task = omega arith;
      tasks-most = ltb-false tasks_most (length (tasks_of t)) few.1;
      handlers-most = ltb-false handlers_most (length (handlers_of h)) tasks.1;
    }

-- and no number is over: both lists are whole rows.
even : (kind : Kind) (s : List ℕ) → uneven kind s ≡ false → length s ≡ width kind * length (rows_of kind s)
even Task s e = let none : length s % 3 ≤ 0 = ltb-false 0 (length s % 3) e in omega (arith, rows-count Task s)
even Handler s e = let none : length s % 2 ≤ 0 = ltb-false 0 (length s % 2) e in omega (arith, rows-count Handler s)

pub refusal-whole : (t h : List ℕ) → table_refusal t h ≡ 0 → (length t ≡ 3 * length (tasks_of t)) × (length h ≡ 2 * length (handlers_of h))
unfolding table_tests
refusal-whole t h e =
    let counts = neither (uneven Task t) (uneven Handler h) (table_none t h e).0 in
    (even Task t counts.0, even Handler h counts.1)

-- The number of a refused table is that of a refusal.
pub table-number : (t h : List ℕ) → 0 < table_refusal t h → number_of (refusal_at (table_refusal t h)) ≡ table_refusal t h
unfolding table_refusal table_tests first_refusal
table-number t h = go (uneven Task t || uneven Handler h) (miscounted (tasks_of t) (handlers_of h)) (some row_outside (tasks_of t) || some row_outside (handlers_of h)) (some deadline_outside (tasks_of t))
  where
    go : (a b c d : Bool) → let k = pick {A = ℕ} a 1 (pick b 2 (pick c 3 (pick d 13 0))) in 0 < k → number_of (refusal_at k) ≡ k
    go true b c d p = refl
    go false true c d p = refl
    go false false true d p = refl
    go false false false true p = refl
    go false false false false p = absurd (omega arith)

-- ---- a call with tests of its own behind the table's

module _ (t h : List ℕ) (own : List (ℕ × Bool)) where
  pub later-refusal : table_refusal t h ≡ 0 → first_refusal (table_tests t h ++ own) ≡ first_refusal own
  later-refusal e = first-later (table_tests t h) own (table_none t h e)

  pub table-refusal : 0 < table_refusal t h → first_refusal (table_tests t h ++ own) ≡ table_refusal t h
  unfolding table_refusal
  table-refusal some = first-earlier (table_tests t h) own some

  -- Nothing is refused: neither by the table nor by the call.
  pub both-none : first_refusal (table_tests t h ++ own) ≡ 0 → (table_refusal t h ≡ 0) × (first_refusal own ≡ 0)
  both-none e = go (eq-zero-or-pos (table_refusal t h))
    where
      go : (table_refusal t h ≡ 0) ⊎ (0 < table_refusal t h) → (table_refusal t h ≡ 0) × (first_refusal own ≡ 0)
      go (inl z) = (z, sym (later-refusal z) ∙ e)
      go (inr p) = absurd (omega (arith, table-refusal p))

-- One test, where it holds and where it does not.
pub one-test : (k : ℕ) (b : Bool) → first_refusal ((k, b) ∷ []) ≡ pick b k 0
unfolding first_refusal
one-test k b = refl

-- ---- a question about an interval

module _ (t h : List ℕ) (l : ℕ) where
  -- About a table with a refusal of its own it meets that, whatever the interval.
  pub asked-table : 0 < table_refusal t h → asked_refusal t h l ≡ table_refusal t h
  unfolding asked_refusal
  asked-table some = table-refusal t h ((5, ltb ticks_most l) ∷ []) some

  -- Answered: the table is in range, and so is the interval.
  pub asked-in-range : asked_refusal t h l ≡ 0 → InRange (tasks_of t) (handlers_of h) × (l ≤ ticks_most)
  unfolding asked_refusal
  asked-in-range e =
      let none = both-none t h ((5, ltb ticks_most l) ∷ []) e in
      (refusal-in-range t h none.0, ltb-false ticks_most l (none_first ((5, ltb ticks_most l) ∷ []) refl none.1).0)

  -- And the reverse, from the table's own refusal.
  pub asked-zero : table_refusal t h ≡ 0 → l ≤ ticks_most → asked_refusal t h l ≡ 0
  unfolding asked_refusal
  asked-zero e m = later-refusal t h ((5, ltb ticks_most l) ∷ []) e ∙ rw (one-test 5 (ltb ticks_most l), le-ltb ticks_most l m)

  pub asked-5 : table_refusal t h ≡ 0 → ticks_most < l → asked_refusal t h l ≡ 5
  unfolding asked_refusal
  asked-5 e m = later-refusal t h ((5, ltb ticks_most l) ∷ []) e ∙ rw (one-test 5 (ltb ticks_most l), lt-ltb ticks_most l m)
