-- The synchronous run over a tick with arrivals, over ticks without, and once it is over.
use mathlib.Core.Bool.{true, false}
use mathlib.Core.List.{List}
use mathlib.Core.Logic.{◌⊎◌, inl, inr}
use mathlib.Core.Path.{◌≡◌, refl, sym, ap, ap₂, subst, ◌∙◌}
use native.Mathlib.Nat.{add-zero, add-suc}
use native.Mathlib.Omega.{arith}
use Prim.Native.Nat.{ℕ, zero, suc, ◌+◌, ◌-◌, ◌≤◌, ◌<◌}
use lib.ListN.{length, take, length-take}
use Rattle.demand.specs.declared.refusal.Refusal.TheVariants.{RunOver}
use Rattle.demand.specs.declared.refusal.Refusal.{Refusal}
use Rattle.std.specs.Prelude.{None, Result, Ok, Err}
use Rattle.advance.proofs.Slides.{went_back}
use Rattle.advance.proofs.Stretches.{stretch-zero, stretch-next}
use Rattle.advance.specs.Promise.{WentTo, GoesOnTo, PieceSays}
use Rattle.advance.specs.Stretch.{quiet, quietly, stretch, number_in}
use Rattle.advance.specs.declared.Piece.{Piece}
use Rattle.demand.proofs.Divide.{le-or-lt}
use Rattle.demand.specs.Limits.{ticks_most}
use Rattle.demand.specs.Refusals.{table_refusal}
use Rattle.demand.specs.Rows.{tasks_of, handlers_of}
use Rattle.guarantees.proofs.Patterns.{Followed, run-next, followed, followed-accepted, fresh-count}
use Rattle.guarantees.proofs.PeriodApart.{count-stays}
use Rattle.guarantees.proofs.Rhythm.{sync-legal}
use Rattle.guarantees.proofs.View.Fresh.{fresh-run}
use Rattle.guarantees.specs.Patterns.{rows_in, pattern_to}
use Rattle.guarantees.specs.Synchronous.{beat_of, sync_run}
use Rattle.machine.specs.Live.{due_of}
use Rattle.own_segments.proofs.Rhythms.{rows-length, quiet-beats}
use Rattle.own_segments.specs.Inside.{Quiet, Turning, Turned}
use Rattle.own_segments.specs.Own.{who_ran, ran_of, own}
use Rattle.scheduler.proofs.Steps.Answers.{passed, refusal-7, step-refused, Outcome, outcome}
use Rattle.scheduler.proofs.Steps.Answers.Outcome.{stays, goes}
use Rattle.scheduler.specs.Reached.{offered_by}
use Rattle.scheduler.specs.Runs.{row_count}
use Rattle.scheduler.specs.Start.{zeros, fresh_run}
use Rattle.scheduler.specs.Steps.{step_refusal, step_of}
use Rattle.scheduler.specs.Tick.{ticked_by}
use Rattle.scheduler.specs.declared.Ran.{Ran}
use Rattle.scheduler.specs.declared.Run.{Run}
use Rattle.scheduler.specs.declared.Stepped.{Stepped}
use Rattle.scheduler.specs.declared.Ticked.{Ticked}
use Rattle.segments.specs.Given.{nobody}

-- Who ran, where a tick went to ran.
went-ran : (ran : Ran) (a : Result Ticked Refusal) → WentTo ran a → ran_of a ≡ ran
unfolding WentTo
went-ran ran (Ok t) w = w
went-ran ran (Err e) w = absurd w

module _ (t h : List ℕ) (e : table_refusal t h ≡ 0) where
  pub sync-next : (n : ℕ) → sync_run t h (suc n) ≡ (step_of (sync_run t h n) (beat_of t h n)).run
  sync-next n = run-next due_of t h (beat_of t h) n

  -- The rows of the table, all along.
  pub sync-count : (n : ℕ) → row_count (sync_run t h n) ≡ length (rows_in t h)
  unfolding pattern_to offered_by
  sync-count zero = ap (λ (r : Run). row_count r) (fresh-run t h e) ∙ fresh-count t h e
  sync-count (suc n) = ap (λ (r : Run). row_count r) (sync-next n) ∙ count-stays due_of (sync_run t h n) (beat_of t h n) ∙ sync-count n

  -- So many tasks, and so many handlers.
  step-task-count : (r : Run) (ws : List ℕ) → (step_of r ws).run.task_count ≡ r.task_count
  step-task-count r ws = go (outcome due_of r ws)
    where
      go : Outcome due_of r ws → (step_of r ws).run.task_count ≡ r.task_count
      go (stays k q) = ap (λ (x : Stepped). x.run.task_count) q
      go (goes none q) = ap (λ (x : Stepped). x.run.task_count) q ∙ (unfold ticked_by in refl)

  pub sync-tasks : (n : ℕ) → (sync_run t h n).task_count ≡ length (tasks_of t)
  unfolding pattern_to offered_by fresh_run
  sync-tasks zero = ap (λ (r : Run). r.task_count) (fresh-run t h e)
  sync-tasks (suc n) = ap (λ (r : Run). r.task_count) (sync-next n) ∙ step-task-count (sync_run t h n) (beat_of t h n) ∙ sync-tasks n

  pub sync-handlers : (n : ℕ) → (sync_run t h n).handler_count ≡ length (handlers_of h)
  sync-handlers n = omega (arith, sync-count n, sync-tasks n, rows-length t h)

  -- In bounds, and at its clock, for as long as it is not over before.
  pub sync-follows : (n : ℕ) → n ≤ ticks_most → ((m : ℕ) → m < n → (sync_run t h m).over ≡ false)
      → Followed due_of t h e (beat_of t h) (sync-legal t h) n
  sync-follows n soon going = followed due_of t h e (beat_of t h) (sync-legal t h) n soon going

  pub sync-accepted : (n : ℕ) → n < ticks_most → ((m : ℕ) → m ≤ n → (sync_run t h m).over ≡ false)
      → step_refusal (sync_run t h n) (beat_of t h n) ≡ 0
  sync-accepted n soon going =
      followed-accepted due_of t h e (beat_of t h) (sync-legal t h) n (sync-follows n (omega arith) (λ m l. going m (omega arith))) soon
      (going n (omega arith))

  -- ---- without arrivals

  module _ (n d : ℕ) (still : Quiet t h n d) where
    pub quiet-offer : (i : ℕ) → i < d → beat_of t h (n + i) ≡ quiet (sync_run t h (n + i))
    quiet-offer i l = quiet-beats t h (n + i) (λ j m. still j m i l) ∙ ap zeros (sym (sync-count (n + i)))

    pub quiet-run : (i : ℕ) → i ≤ d → sync_run t h (n + i) ≡ stretch i (sync_run t h n)
    quiet-run zero l = ap (sync_run t h) (add-zero n) ∙ sym (stretch-zero (sync_run t h n))
    quiet-run (suc i) l =
        ap (sync_run t h) (add-suc n i)
        ∙ sync-next (n + i)
        ∙ ap (λ (ws : List ℕ). (step_of (sync_run t h (n + i)) ws).run) (quiet-offer i l)
        ∙ ap (λ (r : Run). (quietly r).run) (quiet-run i (omega arith))
        ∙ sym (stretch-next (sync_run t h n) i)

    quiet-own : (i : ℕ) → i < d → own t h (n + i) ≡ who_ran (ran_of (quietly (stretch i (sync_run t h n))).answer)
    unfolding own
    quiet-own i l =
        ap (λ (ws : List ℕ). who_ran (ran_of (step_of (sync_run t h (n + i)) ws).answer)) (quiet-offer i l)
        ∙ ap (λ (r : Run). who_ran (ran_of (quietly r).answer)) (quiet-run i (omega arith))

    -- A piece is so many ticks of the run.
    pub piece-turned : (span : ℕ) (run : Run) (p : Piece) → Turning t h run n span → d ≤ span - n → (d ≡ 0 → ⊥) → PieceSays run d p
        → Turned t h n span p
    piece-turned span run p turning within some says =
        let here : run ≡ sync_run t h n = turning.run_is in
        let now : beat_of t h n ≡ quiet (sync_run t h n)
        = ap (beat_of t h) (sym (add-zero n)) ∙ quiet-offer 0 (omega arith) ∙ ap (λ (x : ℕ). quiet (sync_run t h x)) (add-zero n) in
        let accepted : step_refusal (sync_run t h n) (quiet (sync_run t h n)) ≡ 0
        = ap (step_refusal (sync_run t h n)) (sym now) ∙ sync-accepted n (omega (arith, turning.before, turning.soon)) turning.going in
        let number : number_in p.refusal ≡ 0 = says.number ∙ ap (λ (r : Run). step_refusal r (quiet r)) here ∙ accepted in
        record {
          some = says.some number (omega arith);
          within = omega (arith, says.at_most, turning.before);
          run_is = says.run ∙ ap (λ (r : Run). stretch p.ticks r) here ∙ sym (quiet-run p.ticks says.at_most);
          going = λ m l. split m l (le-or-lt m n);
          alone = λ i l.
              quiet-own i (omega (arith, says.at_most))
              ∙ ap who_ran (went-ran p.ran (quietly (stretch i (sync_run t h n))).answer (back i l));
        }
      where
        back : (i : ℕ) → i < p.ticks → GoesOnTo p.ran (stretch i (sync_run t h n))
        back i l = subst (λ (r : Run). GoesOnTo p.ran (stretch i r)) turning.run_is (says.alone i l)

        split : (m : ℕ) → m < n + p.ticks → (m ≤ n) ⊎ (n < m) → (sync_run t h m).over ≡ false
        split m l (inl le) = turning.going m le
        split m l (inr lt) =
            let i : ℕ = m - n in
            let at : n + i ≡ m = omega arith in
            let w = back i (omega arith) in
            let going
            = (passed (stretch i (sync_run t h n)) (quiet (stretch i (sync_run t h n)))
            (went_back (stretch i (sync_run t h n)) p.ran w).0).going in
            ap (λ (x : ℕ). (sync_run t h x).over) (sym at)
            ∙ ap (λ (r : Run). r.over) (quiet-run i (omega (arith, says.at_most)))
            ∙ going

  -- ---- with arrivals

  pub step-turned : (n span : ℕ) (run : Run) (ws : List ℕ) (s : Stepped) (ran : Ran) → Turning t h run n span → ws ≡ beat_of t h n
      → s ≡ step_of run ws → ran ≡ ran_of s.answer → Turned t h n span (record { run = s.run; ran = ran; ticks = 1; refusal = None })
  unfolding own
  step-turned n span run ws s ran turning ew es er =
      let whole : s ≡ step_of (sync_run t h n) (beat_of t h n) = es ∙ ap₂ step_of turning.run_is ew in
      let next : suc n ≡ n + 1 = omega arith in
      record {
        some = omega arith;
        within = omega (arith, turning.before);
        run_is = ap (λ (x : Stepped). x.run) whole ∙ sym (sync-next n) ∙ ap (sync_run t h) next;
        going = λ m l. turning.going m (omega arith);
        alone = λ i l.
            ap (own t h) (let z : n + i ≡ n = omega arith in z)
            ∙ (let here : own t h n ≡ who_ran ran = unfold own in sym
            (ap who_ran (er ∙ ap (λ (x : Stepped). ran_of x.answer) whole)) in here);
      }

  pub arrivals-length : (count : ℕ) (ws : List ℕ) → count ≤ length ws → count ≡ length (take count ws)
  arrivals-length count ws l = omega (arith, length-take count ws)

  -- ---- over

  module _ (n : ℕ) (soon : n ≤ ticks_most) (going : (m : ℕ) → m < n → (sync_run t h m).over ≡ false) (over : (sync_run t h n).over ≡ true) where
    refused : (ws : List ℕ) → step_of (sync_run t h n) ws ≡ record { run = sync_run t h n; answer = Err RunOver }
    refused ws =
        let inside = (sync-follows n soon going).well-made.in_bounds in
        step-refused due_of (sync_run t h n) ws 7 (refusal-7 (sync_run t h n) ws (sym inside) over) (λ z. omega arith)

    pub over-stays : (i : ℕ) → sync_run t h (n + i) ≡ sync_run t h n
    over-stays zero = ap (sync_run t h) (add-zero n)
    over-stays (suc i) =
        ap (sync_run t h) (add-suc n i)
        ∙ sync-next (n + i)
        ∙ ap (λ (r : Run). (step_of r (beat_of t h (n + i))).run) (over-stays i)
        ∙ ap (λ (s : Stepped). s.run) (refused (beat_of t h (n + i)))

    -- Nobody runs then.
    pub over-nobody : (i : ℕ) → own t h (n + i) ≡ nobody
    unfolding own
    over-nobody i =
        ap (λ (r : Run). who_ran (ran_of (step_of r (beat_of t h (n + i))).answer)) (over-stays i)
        ∙ ap (λ (s : Stepped). who_ran (ran_of s.answer)) (refused (beat_of t h (n + i)))
