-- The run under a pattern of arrivals, tick by tick: its table stays, and where the pattern is legal and the run is not over, the next tick
-- is accepted and the clock is the tick.
--   Since arrivals k period n next   the next legal tick of a row is 0, or a period after a tick before n at which it brought work
--   Followed n                       what holds of the run after n ticks
use mathlib.Core.Bool.{false}
use mathlib.Core.List.{List, [], ◌∷◌, ◌++◌}
use mathlib.Core.Logic.{◌⊎◌, inl, inr}
use mathlib.Core.Path.{◌≡◌, refl, sym, ap, subst, ◌∙◌}
use native.Mathlib.Nat.{zero-add, eq-zero-or-pos}
use native.Mathlib.Omega.{arith}
use Prim.Native.Nat.{ℕ, zero, suc, ◌+◌, ◌-◌, ◌≤◌, ◌<◌}
use lib.ListN.{length, get_or, length-append, get_or-append}
use lib.Seq.{get_or-append-add}
use Rattle.demand.proofs.Divide.{le-or-lt}
use Rattle.demand.specs.Limits.{ticks_most}
use Rattle.demand.specs.Refusals.{table_refusal}
use Rattle.demand.specs.Rows.{Row, tasks_of, handlers_of, row_at, no_row}
use Rattle.machine.specs.Live.{Live}
use Rattle.scheduler.specs.Reached.{offered_by, WellMade}
use Rattle.scheduler.specs.Runs.{row_in, row_count}
use Rattle.scheduler.specs.Start.{fresh_run, fresh_of}
use Rattle.scheduler.specs.Steps.{step_by}
use Rattle.scheduler.specs.Tick.{ticked_by}
use Rattle.scheduler.specs.declared.Run.{Run}
use Rattle.scheduler.specs.declared.Stepped.{Stepped}
use Rattle.scheduler.proofs.Reached.{step-in-bounds}
use Rattle.scheduler.proofs.Reached.FreshBounds.{zeros-at}
use Rattle.scheduler.proofs.Steps.Answers.{step-ticks, Outcome, outcome}
use Rattle.scheduler.proofs.Steps.Answers.Outcome.{stays, goes}
use Rattle.guarantees.specs.LegalArrivals.{Accepted, LegalArrival, LegalOnly}
use Rattle.guarantees.specs.Patterns.{rows_in, pattern_to, run_by, LegalPattern}
use Rattle.guarantees.proofs.LegalArrivals.{legal-arrivals, legal-accepted}
use Rattle.guarantees.proofs.PeriodApart.{count-stays}
use Rattle.guarantees.proofs.View.Fresh.{fresh-run, fresh-well-made, fresh-tasks, fresh-handlers}
use Rattle.guarantees.proofs.View.Rows.{task-rows, handler-rows}

-- The last of several offers is a step of the run after the others.
offered-last : (key : Live → ℕ) (offers : List (List ℕ)) (ws : List ℕ) (r : Run) → offered_by key (offers ++ (ws ∷ [])) r ≡ (step_by key (offered_by key offers r) ws).run
unfolding offered_by
offered-last key [] ws r = refl
offered-last key (x ∷ offers) ws r = offered-last key offers ws (step_by key r x).run

-- Tick n is a step with the arrivals of tick n.
pub run-next : (key : Live → ℕ) (t h : List ℕ) (arrivals : ℕ → List ℕ) (n : ℕ) → run_by key t h arrivals (suc n) ≡ (step_by key (run_by key t h arrivals n) (arrivals n)).run
unfolding pattern_to
run-next key t h arrivals n = offered-last key (pattern_to arrivals n) (arrivals n) (fresh_of t h).run

-- A step moves no row.
rows_stay : (key : Live → ℕ) (r : Run) (ws : List ℕ) (k : ℕ) → row_in (step_by key r ws).run k ≡ row_in r k
unfolding ticked_by
rows_stay key r ws k = go (outcome key r ws)
  where
    go : Outcome key r ws → row_in (step_by key r ws).run k ≡ row_in r k
    go (stays j e) = ap (λ (x : Stepped). row_in x.run k) e
    go (goes a e) = ap (λ (x : Stepped). row_in x.run k) e

-- An accepted step is one tick of the clock.
clock-moves : (key : Live → ℕ) (r : Run) (ws : List ℕ) → Accepted r ws → (step_by key r ws).run.clock ≡ r.clock + 1
unfolding ticked_by
clock-moves key r ws a = ap (λ (x : Stepped). x.run.clock) (step-ticks key r ws a)

-- ---- the rows of a fresh run are those of its table, by place

module _ (t h : List ℕ) (e : table_refusal t h ≡ 0) where
  task-count : (fresh_run t h).task_count ≡ length (tasks_of t)
  unfolding fresh_run
  task-count = refl

  fresh-clock : (fresh_run t h).clock ≡ 0
  unfolding fresh_run
  fresh-clock = refl

  fresh-next : (k : ℕ) → get_or (fresh_run t h).next k 0 ≡ 0
  unfolding fresh_run
  fresh-next k = zeros-at _ k

  pub fresh-count : row_count (fresh_run t h) ≡ length (rows_in t h)
  unfolding fresh_run
  fresh-count = sym (length-append (tasks_of t) (handlers_of h))

  pub fresh-row : (k : ℕ) → k < length (rows_in t h) → row_in (fresh_run t h) k ≡ row_at (rows_in t h) k
  fresh-row k l = go (le-or-lt (length (tasks_of t)) k)
    where
      go : (length (tasks_of t) ≤ k) ⊎ (k < length (tasks_of t)) → row_in (fresh_run t h) k ≡ row_at (rows_in t h) k
      go (inr front) =
          let here : row_at (tasks_of t) k ≡ row_in (fresh_run t h) k =
          ap (λ (rs : List Row). row_at rs k) (sym (fresh-tasks t h e)) ∙ (task-rows (fresh_run t h) (fresh-well-made t h e)).row-at k (omega (arith, task-count)) ∙ ap (row_in (fresh_run t h)) (zero-add k) in
          sym here ∙ sym (get_or-append (tasks_of t) (handlers_of h) no_row k front)
      go (inl behind) =
          let i : ℕ = k - length (tasks_of t) in
          let place : length (tasks_of t) + i ≡ k = omega arith in
          let here : row_at (handlers_of h) i ≡ row_in (fresh_run t h) ((fresh_run t h).task_count + i) =
          ap (λ (rs : List Row). row_at rs i) (sym (fresh-handlers t h e))
          ∙ (handler-rows (fresh_run t h) (fresh-well-made t h e)).row-at i (omega (arith, task-count, fresh-count)) in
          ap (row_in (fresh_run t h)) (sym place ∙ ap (λ (n : ℕ). n + i) (sym task-count))
          ∙ sym here
          ∙ sym (get_or-append-add (tasks_of t) (handlers_of h) i no_row)
          ∙ ap (λ (j : ℕ). row_at (rows_in t h) j) place

-- ---- a legal pattern

pub data Since (arrivals : ℕ → List ℕ) (k period n next : ℕ) : Type 0 where
  never : next ≡ 0 → Since arrivals k period n next
  last : (m : ℕ) → m < n → 0 < get_or (arrivals m) k 0 → next ≡ m + period → Since arrivals k period n next

module _ (key : Live → ℕ) (t h : List ℕ) (e : table_refusal t h ≡ 0) (arrivals : ℕ → List ℕ) (legal : LegalPattern t h arrivals) where
  pub record Followed (n : ℕ) : Type 0 where
    pub well-made : WellMade (run_by key t h arrivals n)
    pub count : row_count (run_by key t h arrivals n) ≡ length (rows_in t h)
    pub rows : (k : ℕ) → k < length (rows_in t h) → row_in (run_by key t h arrivals n) k ≡ row_at (rows_in t h) k
    pub clock : (run_by key t h arrivals n).clock ≡ n
    pub since : (k : ℕ) → k < length (rows_in t h) → Since arrivals k (row_at (rows_in t h) k).period n (get_or (run_by key t h arrivals n).next k 0)

  -- At the start.
  pub followed-fresh : Followed 0
  unfolding pattern_to offered_by
  followed-fresh =
      let same = fresh-run t h e in
      record {
        well-made = subst WellMade (sym same) (fresh-well-made t h e);
        count = ap (λ (r : Run). row_count r) same ∙ fresh-count t h e;
        rows = λ k l. ap (λ (r : Run). row_in r k) same ∙ fresh-row t h e k l;
        clock = ap (λ (r : Run). r.clock) same ∙ fresh-clock t h e;
        since = λ k l. never (ap (λ (r : Run). get_or r.next k 0) same ∙ fresh-next t h e k);
      }

  module _ (n : ℕ) (f : Followed n) (soon : n < ticks_most) (going : (run_by key t h arrivals n).over ≡ false) where
    abbrev run : Run
    run = run_by key t h arrivals n

    -- An arrival comes no sooner than a period after the last one of its row, and brings at most the cost.
    legal-at : (k : ℕ) → k < row_count run → LegalArrival run k (get_or (arrivals n) k 0)
    legal-at k l =
        let within : k < length (rows_in t h) = omega (arith, f.count) in
        record { in-time = λ some. in-time some (f.since k within); in-cost = rw (f.rows k within) (legal.in-cost n k within) }
      where
        in-time : 0 < get_or (arrivals n) k 0 → Since arrivals k (row_at (rows_in t h) k).period n (get_or run.next k 0) → get_or run.next k 0 ≤ run.clock
        in-time some (never none) = omega arith
        in-time some (last m before work at) = omega (arith, f.clock, legal.apart m n k (omega (arith, f.count)) before work some)

    pub followed-accepted : Accepted (run_by key t h arrivals n) (arrivals n)
    followed-accepted = legal-accepted run (arrivals n) f.well-made going (omega (arith, f.clock)) (legal.count n ∙ sym f.count) legal-at

    -- The next legal tick of a row after the step.
    since-next : (k : ℕ) → k < length (rows_in t h) → Since arrivals k (row_at (rows_in t h) k).period (suc n) (get_or (step_by key run (arrivals n)).run.next k 0)
    since-next k l = go (eq-zero-or-pos (get_or (arrivals n) k 0)) (f.since k l)
      where
        only : LegalOnly run (arrivals n)
        only = legal-arrivals run (arrivals n) f.well-made going (omega (arith, f.clock))

        go : (get_or (arrivals n) k 0 ≡ 0) ⊎ (0 < get_or (arrivals n) k 0)
            → Since arrivals k (row_at (rows_in t h) k).period n (get_or run.next k 0)
            → Since arrivals k (row_at (rows_in t h) k).period (suc n) (get_or (step_by key run (arrivals n)).run.next k 0)
        go (inl none) (never zero-next) = never (only.waits key followed-accepted k (omega (arith, f.count)) none ∙ zero-next)
        go (inl none) (last m before work at) = last m (omega arith) work (only.waits key followed-accepted k (omega (arith, f.count)) none ∙ at)
        go (inr some) old =
            last n (omega arith) some
            (omega (arith, only.apart key followed-accepted k (omega (arith, f.count)) some, f.clock, ap (λ (x : Row). x.period) (f.rows k l)))

    pub followed-next : Followed (suc n)
    followed-next =
        let same = run-next key t h arrivals n in
        record {
          well-made = subst WellMade (sym same) (step-in-bounds key run (arrivals n) f.well-made);
          count = ap (λ (r : Run). row_count r) same ∙ count-stays key run (arrivals n) ∙ f.count;
          rows = λ k l. ap (λ (r : Run). row_in r k) same ∙ rows_stay key run (arrivals n) k ∙ f.rows k l;
          clock = omega (arith, ap (λ (r : Run). r.clock) same, clock-moves key run (arrivals n) followed-accepted, f.clock);
          since = λ k l. subst (λ (r : Run). Since arrivals k (row_at (rows_in t h) k).period (suc n) (get_or r.next k 0)) (sym same) (since-next k l);
        }

  -- So for as long as it is not over.
  pub followed : (n : ℕ) → n ≤ ticks_most → ((m : ℕ) → m < n → (run_by key t h arrivals m).over ≡ false) → Followed n
  followed zero soon going = followed-fresh
  followed (suc n) soon going = followed-next n (followed n (omega arith) (λ m l. going m (omega arith))) (omega arith) (going n (omega arith))
