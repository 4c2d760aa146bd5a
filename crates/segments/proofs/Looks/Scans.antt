-- Laws of the looks at all rows: one row further, and the end; the counts that they read; the place of the row that runs.
use mathlib.Core.Bool.{Bool, true, false}
use mathlib.Core.List.{List, [], ◌∷◌}
use mathlib.Core.Logic.{◌⊎◌, inl, inr}
use mathlib.Core.Path.{◌≡◌, refl, sym, ap, ◌∙◌}
use native.Mathlib.Numerals.{add-one}
use native.Mathlib.Omega.{arith}
use borrow.Author.Tests.{le-ltb, lt-ltb, eqb-true, eqb-false}
use lib.Dec.{eqb}
use lib.ListN.{length, drop}
use Prim.Native.Nat.{ℕ, zero, suc, ◌+◌, ◌≤◌, ◌<◌, min, max}
use Rattle.demand.specs.Limits.{tasks_most}
use Rattle.demand.specs.Refusals.{FairRow}
use Rattle.demand.specs.Rows.{Row, row_at, Each, Sound, Valid}
use Rattle.demand.specs.Tests.{pick}
use Rattle.demand.proofs.Divide.{le-or-lt}
use Rattle.demand.proofs.Inside.Places.{each_at}
use Rattle.segments.specs.Given.{same, to_task}
use Rattle.segments.specs.Inside.{cond, wait_tick, late_clock, wait_of, rest_of}
use Rattle.segments.specs.Inside.{run_of, waits_of, lates_of, places_most, who_at}
use Rattle.segments.proofs.Looks.Figures.{cond-none, cond-some}

-- The rows from place j on: the row there, and those behind it.
pub drop-row : (rs : List Row) (j : ℕ) → j < length rs → drop j rs ≡ row_at rs j ∷ drop (suc j) rs
drop-row [] j h = absurd (omega arith)
drop-row (r ∷ rs) zero h = refl
drop-row (r ∷ rs) (suc j) h = drop-row rs j (omega arith)

-- Behind the last there is none.
pub drop-end : (rs : List Row) (j : ℕ) → length rs ≤ j → drop j rs ≡ []
drop-end [] zero h = refl
drop-end [] (suc j) h = refl
drop-end (r ∷ rs) zero h = absurd (omega arith)
drop-end (r ∷ rs) (suc j) h = drop-end rs j (omega arith)

-- The earliest of all, one further.
further : (first one rest all x far : ℕ) → min first (min one rest) ≡ all → x ≡ min first one → first ≤ far → (x ≤ far) × (min x rest ≡ all)
further first one rest all x far was now most = (omega (arith, now), omega (arith, was, now))

-- ---- handlers that wait

module _ (far a : ℕ) (g : ℕ → ℕ) (rs : List Row) where
  -- What a loop keeps: the earliest so far, and the earliest of those that are left.
  abbrev pub WaitsSoFar : ℕ → ℕ → Type 0
  WaitsSoFar j first = (j ≤ length rs) × (first ≤ far) × (min first (waits_of far a g j (drop j rs)) ≡ waits_of far a g 0 rs)

  waits-most : (j : ℕ) (qs : List Row) → waits_of far a g j qs ≤ far
  unfolding waits_of
  waits-most j [] = omega arith
  waits-most j (r ∷ qs) = omega (arith, waits-most (suc j) qs)

  -- Before the first row,
  pub waits_start : WaitsSoFar 0 far
  waits_start = (omega arith, omega arith, omega (arith, waits-most 0 rs))

  -- a row further,
  pub waits-turn : (j first x : ℕ) (r : Row) → j < length rs → WaitsSoFar j first → r ≡ row_at rs j → 0 < (row_at rs j).cost
      → x ≡ min first (max a (wait_tick r (g j))) → WaitsSoFar (j + 1) x
  unfolding waits_of
  waits-turn j first x r h so e pos q =
      let here : drop j rs ≡ row_at rs j ∷ drop (suc j) rs = drop-row rs j h in
      let one : wait_of far a (row_at rs j) (g j) ≡ max a (wait_tick (row_at rs j) (g j)) = cond-some (row_at rs j).cost far _ pos in
      let was : min first (min (wait_of far a (row_at rs j) (g j)) (waits_of far a g (suc j) (drop (suc j) rs))) ≡ waits_of far a g 0 rs =
      rw here at so.2 in
      let now : x ≡ min first (max a (wait_tick (row_at rs j) (g j))) = rw e at q in
      let next = further first _ _ _ x far was (now ∙ ap (min first) (sym one)) so.1 in
      rw (add-one j) (omega arith, next.0, next.1)

  -- and behind the last.
  pub waits_end : (j first : ℕ) → length rs ≤ j → WaitsSoFar j first → first ≡ waits_of far a g 0 rs
  unfolding waits_of
  waits_end j first h so =
      let last : min first far ≡ waits_of far a g 0 rs = rw (drop-end rs j h) at so.2 in
      omega (arith, last, so.1)

-- ---- tasks that are late

-- The task at j runs exactly where j is the place of the row that runs.
pub runs-at : (runner j : ℕ) → j < tasks_most → to_task (who_at runner) j ≡ same runner j
runs-at runner j h = go (le-or-lt tasks_most runner) (le-or-lt places_most runner)
  where
    go : (tasks_most ≤ runner) ⊎ (runner < tasks_most) → (places_most ≤ runner) ⊎ (runner < places_most)
        → to_task (who_at runner) j ≡ same runner j
    go (inr l) m = rw (lt-ltb runner tasks_most l)
    go (inl l) (inl m) = rw (le-ltb runner tasks_most l, le-ltb runner places_most m) (omega arith)
    go (inl l) (inr m) = rw (le-ltb runner tasks_most l, lt-ltb runner places_most m) (omega arith)

module _ (far a : ℕ) (g : ℕ → ℕ) (runner : ℕ) (rs : List Row) where
  abbrev lates : ℕ → List Row → ℕ
  lates j qs = lates_of far a g (who_at runner) j qs

  -- What a loop keeps.
  abbrev pub LatesSoFar : ℕ → ℕ → Type 0
  LatesSoFar j first = (j ≤ length rs) × (first ≤ far) × (min first (lates j (drop j rs)) ≡ lates 0 rs)

  -- Never later than far.
  pub lates-most : (j : ℕ) (qs : List Row) → lates j qs ≤ far
  unfolding lates_of
  lates-most j [] = omega arith
  lates-most j (r ∷ qs) = omega (arith, lates-most (suc j) qs)

  -- Before the first task,
  pub lates-start : LatesSoFar 0 far
  lates-start = (omega arith, omega arith, omega (arith, lates-most 0 rs))

  -- One task, by the test of its place.
  one-late : (j : ℕ) (r : Row) → j < tasks_most → 0 < r.cost
      → cond (to_task (who_at runner) j) (rest_of far r (g j)) (run_of far a r (g j))
      ≡ pick (eqb runner j) (run_of far a r (g j)) (late_clock r (g j))
  one-late j r h pos = go (eqb runner j) refl
    where
      go : (b : Bool) → eqb runner j ≡ b
          → cond (to_task (who_at runner) j) (rest_of far r (g j)) (run_of far a r (g j)) ≡ pick b (run_of far a r (g j)) (late_clock r (g j))
      go true e = cond-some (to_task (who_at runner) j) _ _ (omega (arith, runs-at runner j h, eqb-true runner j e))
      go false e =
          let off : runner ≡ j → ⊥ = eqb-false runner j e in
          cond-none (to_task (who_at runner) j) _ _ (omega (arith, runs-at runner j h)) ∙ cond-some r.cost far _ pos

  -- a task further,
  pub lates-turn : (j first x : ℕ) (r : Row) → j < length rs → j < tasks_most → LatesSoFar j first → r ≡ row_at rs j → 0 < (row_at rs j).cost
      → x ≡ min first (pick (eqb runner j) (run_of far a r (g j)) (late_clock r (g j))) → LatesSoFar (j + 1) x
  unfolding lates_of
  lates-turn j first x r h room so e pos q =
      let one : ℕ = cond (to_task (who_at runner) j) (rest_of far (row_at rs j) (g j)) (run_of far a (row_at rs j) (g j)) in
      let was : min first (min one (lates (suc j) (drop (suc j) rs))) ≡ lates 0 rs = rw (drop-row rs j h) at so.2 in
      let now : x ≡ min first (pick (eqb runner j) (run_of far a (row_at rs j) (g j)) (late_clock (row_at rs j) (g j))) = rw e at q in
      let told : x ≡ min first one = now ∙ ap (min first) (sym (one-late j (row_at rs j) room pos)) in
      let next = further first one _ _ x far was told so.1 in
      rw (add-one j) (omega arith, next.0, next.1)

  -- and behind the last.
  pub lates-end : (j first : ℕ) → length rs ≤ j → LatesSoFar j first → first ≡ lates 0 rs
  unfolding lates_of
  lates-end j first h so =
      let last : min first far ≡ lates 0 rs = rw (drop-end rs j h) at so.2 in
      omega (arith, last, so.1)

-- ---- a row that is looked at

-- The row at a place of a table in range has figures in range,
pub fair-at : (rs : List Row) → Each FairRow rs → (r : Row) (j : ℕ) → r ≡ row_at rs j → j < length rs → FairRow r
fair-at rs fair r j e h = rw e (each_at FairRow rs fair j h)

-- a cost,
pub cost-at : (rs : List Row) → Each FairRow rs → (j : ℕ) → j < length rs → 0 < (row_at rs j).cost
cost-at rs fair j h = (each_at FairRow rs fair j h).cost.least

-- and, of a task, a deadline from 1 to its period.
pub sound-at : (ts : List Row) → Valid ts → (r : Row) (j : ℕ) → r ≡ row_at ts j → j < length ts → Sound r
sound-at ts valid r j e h = rw e (each_at Sound ts valid j h)
