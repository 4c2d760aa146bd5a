-- What each row is owed and was given in the synchronous run: together the work that it was called for.
--   Shares n      so it is at clock n, and the deadline of a task's last job is its own after its last arrival
use mathlib.Core.Bool.{false}
use mathlib.Core.List.{List}
use mathlib.Core.Path.{◌≡◌, sym, ap, subst, ◌∙◌}
use native.Mathlib.Omega.{arith}
use Prim.Native.Nat.{ℕ, zero, suc, ◌+◌, ◌-◌, ◌*◌, ◌≤◌, ◌<◌}
use lib.ListN.{length, get_or}
use Rattle.demand.proofs.Divide.{ceil-zero}
use Rattle.demand.specs.Demands.{ceil}
use Rattle.demand.specs.Limits.{ticks_most}
use Rattle.demand.specs.Refusals.{table_refusal}
use Rattle.demand.specs.Rows.{Row, tasks_of, handlers_of, row_at}
use Rattle.guarantees.proofs.Patterns.{Followed}
use Rattle.guarantees.proofs.Rhythm.{sync-legal}
use Rattle.guarantees.proofs.View.Fresh.{fresh-run}
use Rattle.guarantees.specs.Patterns.{rows_in, pattern_to}
use Rattle.guarantees.specs.Synchronous.{beat_of, sync_run}
use Rattle.machine.specs.Live.{due_of}
use Rattle.machine.specs.Schedules.{beat}
use Rattle.own_segments.proofs.Rhythms.{rows-length, rows_few, row-front, row_back, rows-fair, beat-at}
use Rattle.own_segments.proofs.Runs.{sync-next, sync-follows, sync-accepted, sync-tasks, sync-handlers}
use Rattle.own_segments.specs.Own.{who_ran, ran_of, own}
use Rattle.scheduler.proofs.Reached.FreshBounds.{zeros-at}
use Rattle.scheduler.proofs.Reached.KeepsBounds.{owed-at, owed-length, due-moves, due-stays}
use Rattle.scheduler.proofs.Steps.Answers.{Passed, passed, step-ticks}
use Rattle.scheduler.proofs.Steps.Goes.{goes-to}
use Rattle.scheduler.specs.Reached.{offered_by}
use Rattle.scheduler.specs.Runs.{row_in, row_places}
use Rattle.scheduler.specs.Start.{fresh_run}
use Rattle.scheduler.specs.Steps.{step_refusal, step_of}
use Rattle.scheduler.specs.Tick.{GoesTo, paid, owed_with, due_with, key_in, ran_by, ticked_by}
use Rattle.scheduler.specs.declared.Ran.{Ran}
use Rattle.scheduler.specs.declared.Run.{Run}
use Rattle.scheduler.specs.declared.Stepped.{Stepped}
use Rattle.segments.specs.Given.{Who, to_task, to_handler, task_ticks, handler_ticks, work_by}
use Rattle.own_segments.proofs.OneRow.{Arrives, arrival, work-zero, work-next, paid-task, paid-handler}
use Rattle.own_segments.proofs.OneRow.Arrives.{arrives, waits}

-- ---- all rows, tick by tick

module _ (t h : List ℕ) (e : table_refusal t h ≡ 0) where
  abbrev tasks : ℕ
  tasks = length (tasks_of t)

  abbrev handlers : ℕ
  handlers = length (handlers_of h)

  pub record Shares (n : ℕ) : Type 0 where
    pub of-tasks : (i : ℕ) → i < length (tasks_of t)
        → get_or (sync_run t h n).owed i 0 + task_ticks (own t h) i n ≡ work_by (row_at (tasks_of t) i) n
    pub of-handlers : (j : ℕ) → j < length (handlers_of h)
        → get_or (sync_run t h n).owed (length (tasks_of t) + j) 0 + handler_ticks (own t h) j n ≡ work_by (row_at (handlers_of h) j) n
    pub due : (i : ℕ) → i < length (tasks_of t) → 0 < n
        → get_or (sync_run t h n).due i 0 + (row_at (tasks_of t) i).period
        ≡ ceil n (row_at (tasks_of t) i).period * (row_at (tasks_of t) i).period + (row_at (tasks_of t) i).deadline

  task-row : (i : ℕ) → i < tasks → row_at (rows_in t h) i ≡ row_at (tasks_of t) i
  task-row i l = sym (row-front t h i l)

  handler-row : (j : ℕ) → row_at (rows_in t h) (tasks + j) ≡ row_at (handlers_of h) j
  handler-row j =
      sym (row_back t h (tasks + j) (omega arith)) ∙ ap (λ (x : ℕ). row_at (handlers_of h) x)
      (let q : tasks + j - tasks ≡ j = omega arith in q)

  task-period : (i : ℕ) → i < tasks → 0 < (row_at (tasks_of t) i).period
  task-period i l =
      omega (arith, (rows-fair t h e i (omega (arith, rows-length t h))).period.least, ap (λ (r : Row). r.period) (task-row i l))

  handler-period : (j : ℕ) → j < handlers → 0 < (row_at (handlers_of h) j).period
  handler-period j l =
      omega (
        arith,
        (rows-fair t h e (tasks + j) (omega (arith, rows-length t h))).period.least,
        ap (λ (r : Row). r.period)
            (handler-row j),
      )

  task-cost : (i : ℕ) → i < tasks → 0 < (row_at (tasks_of t) i).cost
  task-cost i l = omega (arith, (rows-fair t h e i (omega (arith, rows-length t h))).cost.least, ap (λ (r : Row). r.cost) (task-row i l))

  fresh-owed : (k : ℕ) → get_or (sync_run t h 0).owed k 0 ≡ 0
  unfolding pattern_to offered_by fresh_run
  fresh-owed k = ap (λ (r : Run). get_or r.owed k 0) (fresh-run t h e) ∙ zeros-at row_places k

  pub shares-zero : Shares 0
  unfolding task_ticks handler_ticks
  shares-zero = record {
    of-tasks = λ i l. omega (arith, fresh-owed i, work-zero (row_at (tasks_of t) i));
    of-handlers = λ j l. omega (arith, fresh-owed (tasks + j), work-zero (row_at (handlers_of h) j));
    due = λ i l some. absurd (omega arith);
  }

  module _ (n : ℕ) (soon : n < ticks_most) (going : (m : ℕ) → m ≤ n → (sync_run t h m).over ≡ false) where
    abbrev r : Run
    r = sync_run t h n

    abbrev ws : List ℕ
    ws = beat_of t h n

    follows : Followed due_of t h e (beat_of t h) (sync-legal t h) n
    follows = sync-follows t h e n (omega arith) (λ m l. going m (omega arith))

    none : step_refusal r ws ≡ 0
    none = sync-accepted t h e n soon going

    p : Passed r ws
    p = passed r ws none

    abbrev pub ran : Ran
    ran = ran_by due_of r ws

    ticked : step_of r ws ≡ ticked_by due_of r ws
    ticked = step-ticks due_of r ws none

    next-owed : (sync_run t h (suc n)).owed ≡ paid (owed_with r ws) r.task_count ran
    unfolding ticked_by
    next-owed = ap (λ (x : Run). x.owed) (sync-next t h e n) ∙ ap (λ (x : Stepped). x.run.owed) ticked

    next-due : (sync_run t h (suc n)).due ≡ due_with r ws
    unfolding ticked_by
    next-due = ap (λ (x : Run). x.due) (sync-next t h e n) ∙ ap (λ (x : Stepped). x.run.due) ticked

    pub own-ran : own t h n ≡ who_ran (ran_by due_of (sync_run t h n) (beat_of t h n))
    unfolding own ticked_by
    own-ran = ap (λ (x : Stepped). who_ran (ran_of x.answer)) ticked

    pub own-goes :
        GoesTo (key_in due_of (sync_run t h n) (beat_of t h n)) (owed_with (sync_run t h n) (beat_of t h n)) (length (tasks_of t))
        (length (handlers_of h)) (ran_by due_of (sync_run t h n) (beat_of t h n))
    own-goes =
        subst (λ (x : ℕ). GoesTo (key_in due_of r ws) (owed_with r ws) x handlers ran) (sync-tasks t h e n)
        (subst (λ (y : ℕ). GoesTo (key_in due_of r ws) (owed_with r ws) r.task_count y ran) (sync-handlers t h e n)
        (goes-to (key_in due_of r ws) (owed_with r ws) r.task_count r.handler_count))

    -- With the arrivals of the tick.
    arrived : (k : ℕ) → k < length (rows_in t h) → get_or (owed_with r ws) k 0 ≡ get_or r.owed k 0 + beat n (row_at (rows_in t h) k)
    arrived k l =
        owed-at r ws follows.well-made.shaped p k (omega (arith, follows.count))
        ∙ ap (λ (x : ℕ). get_or r.owed k 0 + x) (beat-at t h n k l)

    pub arrived-task : Shares n → (i : ℕ) → i < length (tasks_of t)
        → get_or (owed_with (sync_run t h n) (beat_of t h n)) i 0 + task_ticks (own t h) i n ≡ work_by (row_at (tasks_of t) i) (suc n)
    arrived-task s i l =
        omega (
          arith,
          arrived i (omega (arith, rows-length t h)),
          ap (λ (x : Row). beat n x) (task-row i l),
          s.of-tasks i l,
          work-next n (row_at (tasks_of t) i) (task-period i l),
        )

    pub arrived-handler : Shares n → (j : ℕ) → j < length (handlers_of h)
        → get_or (owed_with (sync_run t h n) (beat_of t h n)) (length (tasks_of t) + j) 0 + handler_ticks (own t h) j n ≡ work_by
        (row_at (handlers_of h) j) (suc n)
    arrived-handler s j l =
        omega (
          arith,
          arrived (tasks + j) (omega (arith, rows-length t h)),
          ap (λ (x : Row). beat n x) (handler-row j),
          s.of-handlers j l,
          work-next n (row_at (handlers_of h) j) (handler-period j l),
        )

    owed-long : tasks + handlers ≤ length (owed_with r ws)
    owed-long = omega (arith, owed-length r ws follows.well-made.shaped p, rows_few t h e, rows-length t h)

    next-task : Shares n → (i : ℕ) → i < tasks
        → get_or (sync_run t h (suc n)).owed i 0 + task_ticks (own t h) i (suc n) ≡ work_by (row_at (tasks_of t) i) (suc n)
    unfolding task_ticks
    next-task s i l =
        omega (
          arith,
          ap (λ (xs : List ℕ). get_or xs i 0) (next-owed ∙ ap (λ (x : ℕ). paid (owed_with r ws) x ran) (sync-tasks t h e n)),
          paid-task (key_in due_of r ws) (owed_with r ws) tasks handlers owed-long ran own-goes i l,
          ap (λ (w : Who). to_task w i) own-ran,
          arrived-task s i l,
        )

    next-handler : Shares n → (j : ℕ) → j < handlers
        → get_or (sync_run t h (suc n)).owed (tasks + j) 0 + handler_ticks (own t h) j (suc n) ≡ work_by (row_at (handlers_of h) j) (suc n)
    unfolding handler_ticks
    next-handler s j l =
        omega (
          arith,
          ap (λ (xs : List ℕ). get_or xs (tasks + j) 0) (next-owed ∙ ap (λ (x : ℕ). paid (owed_with r ws) x ran) (sync-tasks t h e n)),
          paid-handler (key_in due_of r ws) (owed_with r ws) tasks handlers owed-long ran own-goes j l,
          ap (λ (w : Who). to_handler w j) own-ran,
          arrived-handler s j l,
        )

    due-next : Shares n → (i : ℕ) → i < tasks
        → get_or (sync_run t h (suc n)).due i 0 + (row_at (tasks_of t) i).period
        ≡ ceil (suc n) (row_at (tasks_of t) i).period * (row_at (tasks_of t) i).period + (row_at (tasks_of t) i).deadline
    due-next s i l = go (arrival n row (task-period i l))
      where
        row : Row
        row = row_at (tasks_of t) i

        within : i < length (rows_in t h)
        within = omega (arith, rows-length t h)

        here : i < r.task_count
        here = omega (arith, sync-tasks t h e n)

        brought : get_or ws i 0 ≡ beat n row
        brought = beat-at t h n i within ∙ ap (λ (x : Row). beat n x) (task-row i l)

        own_row : (row_in r i).deadline ≡ row.deadline
        own_row = ap (λ (x : Row). x.deadline) (follows.rows i within ∙ task-row i l)

        was : get_or (sync_run t h (suc n)).due i 0 ≡ get_or (due_with r ws) i 0
        was = ap (λ (xs : List ℕ). get_or xs i 0) next-due

        go : Arrives n row → get_or (sync_run t h (suc n)).due i 0 + row.period ≡ ceil (suc n) row.period * row.period + row.deadline
        go (arrives b at c) =
            let moves = due-moves r ws follows.well-made.shaped p i here (omega (arith, brought, b, task-cost i l)) in
            let multiple : ceil (suc n) row.period * row.period ≡ ceil n row.period * row.period + row.period
            = ap (λ (x : ℕ). x * row.period) c ∙
            (let q : suc (ceil n row.period) * row.period ≡ ceil n row.period * row.period + row.period = omega arith in q) in
            omega (arith, was, moves, own_row, follows.clock, at, multiple)
        go (waits b at c) =
            let kept = due-stays r ws follows.well-made.shaped p i here (brought ∙ b) in
            omega (arith, was, kept, s.due i l (positive n at), ap (λ (x : ℕ). x * row.period) c)
          where
            positive : (x : ℕ) → x < ceil x row.period * row.period → 0 < x
            positive zero q = absurd (omega (arith, ap (λ (x : ℕ). x * row.period) (ceil-zero row.period)))
            positive (suc x) q = omega arith

    pub shares-next : Shares n → Shares (suc n)
    shares-next s = record { of-tasks = next-task s; of-handlers = next-handler s; due = λ i l some. due-next s i l }

  -- For as long as the run is not over.
  pub shares : (n : ℕ) → n ≤ ticks_most → ((m : ℕ) → m < n → (sync_run t h m).over ≡ false) → Shares n
  shares zero soon going = shares-zero
  shares (suc n) soon going = shares-next n soon (λ m l. going m (omega arith)) (shares n (omega arith) (λ m l. going m (omega arith)))
