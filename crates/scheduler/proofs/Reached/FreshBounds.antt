-- A fresh run is in bounds.
use mathlib.Core.Bool.{Bool, true, false}
use mathlib.Core.List.{List}
use mathlib.Core.Logic.{◌⊎◌, inl, inr}
use mathlib.Core.Path.{◌≡◌, refl, sym, ap, ◌∙◌}
use native.Mathlib.Omega.{arith}
use borrow.Author.Tests.{lt-ltb, le-ltb, ltb-true, ltb-false, ne_eqb, eqb-true, eqb-false}
use Prim.Native.Nat.{ℕ, zero, suc, ◌+◌, ◌-◌, ◌*◌, ◌≤◌, ◌<◌}
use lib.Dec.{ltb, eqb}
use lib.ListN.{length, get_or, drop, replicate, length-append, length-replicate, get_or-replicate, get_or-append, get_or-eq_default}
use lib.Seq.{drop_at}
use Rattle.demand.proofs.Divide.{le-or-lt}
use Rattle.demand.proofs.Inside.Places.{rows_append, each_at}
use Rattle.demand.proofs.Refusals.{row_inside, deadline-inside}
use Rattle.std.specs.Prelude.{Ok, Err}
use Rattle.demand.specs.Numbered.{refusal_at}
use Rattle.demand.specs.Limits.{tasks_most, handlers_most}
use Rattle.demand.specs.Refusals.{table_refusal, FairRow}
use Rattle.demand.specs.Rows.{Row, rows_of, width, tasks_of, handlers_of, row_at, no_row, Sound}
use Rattle.demand.specs.declared.table.Kind.{Kind}
use Rattle.demand.specs.declared.table.Kind.TheVariants.{Task, Handler}
use Rattle.scheduler.specs.Bounds.{miscounts, outside_at, deadline_outside_at, places_used, InBounds}
use Rattle.scheduler.specs.Runs.{row_in, row_count, Shaped, task_numbers, handler_numbers, row_places}
use Rattle.scheduler.specs.Scans.{used}
use Rattle.scheduler.specs.Start.{padded, zeros, fresh_run, fresh_of}
use Rattle.scheduler.specs.declared.Fresh.{Fresh}
use Rattle.scheduler.proofs.Steps.Clauses.{in_bounds}
use Rattle.scheduler.proofs.Steps.Scan.{any_false}
use Rattle.scheduler.proofs.Steps.Tables.{Whole, whole, drop-replicate, tasks-fit, handlers-fit, fresh-ready, fresh-refused, table-known}

-- ---- zeros

used-zeros : (n : ℕ) → used (replicate n 0) ≡ false
unfolding used
used-zeros zero = refl
used-zeros (suc n) = used-zeros n

pub zeros-at : (n k : ℕ) → get_or (zeros n) k 0 ≡ 0
unfolding zeros
zeros-at n k = go (le-or-lt n k)
  where
    go : (n ≤ k) ⊎ (k < n) → get_or {A = ℕ} (replicate n 0) k 0 ≡ 0
    go (inl l) = get_or-eq_default {A = ℕ} (replicate n 0) 0 {n = k} (omega (arith, length-replicate {A = ℕ} n 0))
    go (inr l) = get_or-replicate {A = ℕ} n k 0 0 l

pub zeros-length : (n : ℕ) → length (zeros n) ≡ n
unfolding zeros
zeros-length n = length-replicate {A = ℕ} n 0

zeros-unused : (n k : ℕ) → used (drop k (zeros n)) ≡ false
unfolding zeros
zeros-unused n k = rw (drop-replicate k n) (used-zeros (n - k))

-- ---- the table, padded

padded-length : (n : ℕ) (xs : List ℕ) → length xs ≤ n → length (padded n xs) ≡ n
unfolding padded
padded-length n xs l = omega (arith, length-append xs (replicate (n - length xs) 0), length-replicate {A = ℕ} (n - length xs) 0)

padded-unused : (n : ℕ) (xs : List ℕ) (k : ℕ) → length xs ≡ k → used (drop k (padded n xs)) ≡ false
unfolding padded
padded-unused n xs k e = rw (drop_at xs (replicate (n - length xs) 0) k e) (used-zeros (n - length xs))

padded-row : (kind : Kind) (n : ℕ) (xs : List ℕ) (k : ℕ) → length xs ≡ width kind * length (rows_of kind xs) → k < length (rows_of kind xs)
    → row_at (rows_of kind (padded n xs)) k ≡ row_at (rows_of kind xs) k
unfolding padded
padded-row kind n xs k e l =
    ap (λ (rs : List Row). row_at rs k) (rows_append kind xs (replicate (n - length xs) 0) e)
    ∙ get_or-append (rows_of kind xs) (rows_of kind (replicate (n - length xs) 0)) no_row k l

-- ---- the fresh run

module _ (t h : List ℕ) (e : table_refusal t h ≡ 0) where
  table : Whole t h
  table = whole t h e

  counts : miscounts (length (tasks_of t)) (length (handlers_of h)) ≡ false
  counts =
      let range = table.in-range in
      rw (
        ne_eqb (length (tasks_of t)) 0 (λ z. omega (arith, range.some-task)),
        le-ltb tasks_most (length (tasks_of t)) range.tasks-most,
        le-ltb handlers_most (length (handlers_of h)) range.handlers-most,
      )

  figures : (k : ℕ) → k < length (tasks_of t) + length (handlers_of h) → outside_at (row_in (fresh_run t h)) k ≡ false
  unfolding fresh_run
  figures k l = go (ltb k (length (tasks_of t))) refl
    where
      go : (b : Bool) → ltb k (length (tasks_of t)) ≡ b → outside_at (row_in (fresh_run t h)) k ≡ false
      go true q =
          let below = ltb-true k (length (tasks_of t)) q in
          rw (q, padded-row Task task_numbers t k table.tasks below) (row_inside _ (each_at FairRow (tasks_of t) table.in-range.tasks k below))
      go false q =
          let above = ltb-false k (length (tasks_of t)) q in
          let i : ℕ = k - length (tasks_of t) in
          let below : i < length (handlers_of h) = omega arith in
          rw (q, padded-row Handler handler_numbers h i table.handlers below) (row_inside _ (each_at FairRow (handlers_of h) table.in-range.handlers i below))

  own : (k : ℕ) → k < length (tasks_of t) → deadline_outside_at (row_in (fresh_run t h)) k ≡ false
  unfolding fresh_run
  own k l = rw (lt-ltb k (length (tasks_of t)) l, padded-row Task task_numbers t k table.tasks l) (deadline-inside _ (each_at Sound (tasks_of t) table.in-range.deadlines k l))

  places : places_used (fresh_run t h) ≡ false
  unfolding fresh_run
  places =
      rw (
        padded-unused task_numbers t (3 * length (tasks_of t)) table.tasks,
        padded-unused handler_numbers h (2 * length (handlers_of h)) table.handlers,
        zeros-unused row_places (length (tasks_of t) + length (handlers_of h)),
        zeros-unused tasks_most (length (tasks_of t)),
      )

  nothing-next : {x : ℕ} (k : ℕ) → get_or (fresh_run t h).next k 0 ≤ x
  unfolding fresh_run
  nothing-next k = omega (arith, zeros-at row_places k)

  nothing-due : {x : ℕ} (k : ℕ) → get_or (fresh_run t h).due k 0 ≤ x
  unfolding fresh_run
  nothing-due k = omega (arith, zeros-at tasks_most k)

  nothing-owed : {x : ℕ} (k : ℕ) → get_or (fresh_run t h).owed k 0 ≤ x
  unfolding fresh_run
  nothing-owed k = omega (arith, zeros-at row_places k)

  pub fresh-bounds : InBounds (fresh_run t h)
  fresh-bounds =
      in_bounds (fresh_run t h)
      (record {
        counts = unfold fresh_run in counts;
        figures = any_false (outside_at (row_in (fresh_run t h))) (row_count (fresh_run t h)) (unfold fresh_run in figures);
        own = any_false (deadline_outside_at (row_in (fresh_run t h))) (fresh_run t h).task_count (unfold fresh_run in own);
        places = places;
        clock = unfold fresh_run in refl;
        next = any_false _ (row_count (fresh_run t h)) (λ k l. le-ltb _ _ (nothing-next k));
        tasks = any_false _ (fresh_run t h).task_count (λ k l. le-ltb _ _ (nothing-owed k));
        handlers = any_false _ (fresh_run t h).handler_count (λ i l. le-ltb _ _ (nothing-owed _));
        due = any_false _ (fresh_run t h).task_count (λ k l. le-ltb _ _ (nothing-due k));
        ordered = any_false _ (fresh_run t h).task_count (λ k l. le-ltb _ _ (nothing-due k));
        deadlines = any_false _ (fresh_run t h).task_count (λ k l. rw (le-ltb 0 (get_or (fresh_run t h).owed k 0) (nothing-owed k)));
        late = unfold fresh_run in refl;
        named = unfold fresh_run in refl;
      })

  pub fresh-shape : Shaped (fresh_run t h)
  unfolding fresh_run
  fresh-shape = record {
    tasks-long = padded-length task_numbers t (tasks-fit t h e);
    handlers-long = padded-length handler_numbers h (handlers-fit t h e);
    next-long = zeros-length row_places;
    due-long = zeros-length tasks_most;
    owed-long = zeros-length row_places;
  }

-- A fresh run that is ready is that of a table without a refusal.
pub ready : (t h : List ℕ) → (fresh_of t h).answer ≡ Ok tt → table_refusal t h ≡ 0
ready t h e = go (eqb (table_refusal t h) 0) refl
  where
    go : (b : Bool) → eqb (table_refusal t h) 0 ≡ b → table_refusal t h ≡ 0
    go true q = eqb-true (table_refusal t h) 0 q
    go false q =
        let refused = fresh-refused t h (refusal_at (table_refusal t h)) (table-known t h (eqb-false (table_refusal t h) 0 q)) in
        let same : Err (refusal_at (table_refusal t h)) ≡ Ok tt = sym (ap (λ (x : Fresh). x.answer) refused) ∙ e in
        absurd (let z : ◌≡◌ {A = ℕ} 0 1 = cc in omega arith)

pub ready-run : (t h : List ℕ) → (fresh_of t h).answer ≡ Ok tt → (fresh_of t h).run ≡ fresh_run t h
ready-run t h e = ap (λ (x : Fresh). x.run) (fresh-ready t h (ready t h e))
