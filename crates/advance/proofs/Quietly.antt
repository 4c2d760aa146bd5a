-- A step without arrivals: it changes no next arrival and no deadline, and is refused only where the run is over or at the last tick.
use mathlib.Core.Bool.{Bool, true, false}
use mathlib.Core.List.{List, ◌∷◌}
use mathlib.Core.Path.{◌≡◌, refl, sym, ap, subst, ◌∙◌}
use native.Mathlib.Nat.{add-mul, one-mul}
use native.Mathlib.Omega.{arith}
use borrow.Author.Tests.{le-ltb}
use Prim.Native.Nat.{ℕ, zero, suc, ◌+◌, ◌*◌, ◌≤◌, ◌<◌}
use lib.ListN.{length, get_or, take, drop, replicate}
use lib.Seq.{set-get_or}
use Rattle.std.specs.Prelude.{Ok}
use Rattle.advance.specs.Inside.Alone.{paid_by, stood, runner}
use Rattle.advance.specs.Stretch.{quiet, quietly}
use Rattle.demand.specs.Limits.{tasks_most, handlers_most, ticks_most}
use Rattle.machine.specs.Live.{due_of}
use Rattle.scheduler.proofs.Reached.FreshBounds.{zeros-at, zeros-length}
use Rattle.scheduler.proofs.Reached.Keeps.{ahead-stays, paid-le, paid-drop, names_same, not_named, nobody-late, not-missed}
use Rattle.scheduler.proofs.Steps.Answers.{Outcome, outcome, passed, step-ticks, step-refused}
use Rattle.scheduler.proofs.Steps.Answers.{refusal-0, refusal-6, refusal-7, refusal-8}
use Rattle.scheduler.proofs.Steps.Answers.Outcome.{stays, goes}
use Rattle.scheduler.proofs.Steps.Clauses.{Clauses, clauses, in_bounds, clauses-fit, clauses-next, clauses-task, clauses-handler}
use Rattle.scheduler.proofs.Steps.Clauses.{clauses-near, clauses-ordered, clauses-due}
use Rattle.scheduler.proofs.Steps.Goes.{goes-to}
use Rattle.scheduler.proofs.Steps.Scan.{any_false}
use Rattle.scheduler.specs.Bounds.{places_used, too_far, too_much, too_much_behind, due_far, due_behind, missed, out_of_bounds, InBounds}
use Rattle.scheduler.specs.Runs.{row_in, row_count, row_places}
use Rattle.scheduler.specs.Scans.{at, filled}
use Rattle.scheduler.specs.Start.{zeros}
use Rattle.scheduler.specs.Steps.{early, heavy, step_refusal, step_of}
use Rattle.scheduler.specs.Tick.{next_arrived, due_arrived, owed_arrived, paid, late_row, ticked_by}
use Rattle.scheduler.specs.declared.Ran.{Ran}
use Rattle.scheduler.specs.declared.Ran.TheVariants.{Handler, Task, Idle}
use Rattle.scheduler.specs.declared.Run.{Run}
use Rattle.scheduler.specs.declared.Stepped.{Stepped}

-- Each place filled with what it holds.
filled-same : (f : ℕ → ℕ) (n : ℕ) (xs : List ℕ) → ((k : ℕ) → f k ≡ get_or xs k 0) → filled f n xs ≡ xs
unfolding filled
filled-same f zero xs h = refl
filled-same f (suc n) xs h = rw (filled-same f n xs h, h n) (set-get_or xs n 0)

take-replicate : (k n : ℕ) → k ≤ n → take {A = ℕ} k (replicate n 0) ≡ replicate k 0
take-replicate zero n l = refl
take-replicate (suc k) zero l = absurd (omega arith)
take-replicate (suc k) (suc n) l = ap (λ (xs : List ℕ). 0 ∷ xs) (take-replicate k n (omega arith))

-- A tick is one tick of many.
pub paid-one : (owed : List ℕ) (n : ℕ) (ran : Ran) → paid owed n ran ≡ paid_by owed n ran 1
paid-one owed n (Handler i) = refl
paid-one owed n (Task i) = refl
paid-one owed n Idle = refl

-- It takes work and gives none.
pub paid-least : (owed : List ℕ) (n : ℕ) (ran : Ran) (j : ℕ) → get_or (paid_by owed n ran 1) j 0 ≤ get_or owed j 0
paid-least owed n ran j = omega (arith, paid-le owed n ran j, ap (λ (xs : List ℕ). get_or xs j 0) (paid-one owed n ran))

-- The run a tick on, and the answer.
abbrev pub tick_on : Run → Stepped
tick_on r =
    let owed = paid_by r.owed r.task_count (runner r) 1 in
    record { run = stood r (r.clock + 1) owed; answer = Ok (record { ran = runner r; late = late_row (r.clock + 1) (at r.due) owed r.task_count }) }

module _ (r : Run) where
  none-arrive : (k : ℕ) → get_or (quiet r) k 0 ≡ 0
  none-arrive k = zeros-at (row_count r) k

  quiet_next : next_arrived r.clock (row_in r) (quiet r) (row_count r) r.next ≡ r.next
  unfolding next_arrived
  quiet_next =
      filled-same _ (row_count r) r.next
      (λ k. ahead-stays r.clock (row_in r k).period (get_or (quiet r) k 0) (get_or r.next k 0) (none-arrive k))

  quiet-due : due_arrived r.clock (row_in r) (quiet r) r.task_count r.due ≡ r.due
  unfolding due_arrived
  quiet-due =
      filled-same _ r.task_count r.due
      (λ k. ahead-stays r.clock (row_in r k).deadline (get_or (quiet r) k 0) (get_or r.due k 0) (none-arrive k))

  quiet-owed : owed_arrived (quiet r) (row_count r) r.owed ≡ r.owed
  unfolding owed_arrived
  quiet-owed = filled-same _ (row_count r) r.owed (λ k. omega (arith, none-arrive k))

  -- The tick of the one that runs, and nothing else.
  quiet-ticks : ticked_by due_of r (quiet r) ≡ tick_on r
  unfolding ticked_by
  quiet-ticks = rw (quiet_next, quiet-due, quiet-owed, paid-one r.owed r.task_count (runner r))

  module _ (inside : InBounds r) where
    -- Over, it is refused; ..
    pub over-refuses : r.over ≡ true → 7 ≡ step_refusal r (quiet r)
    over-refuses over = refusal-7 r (quiet r) (sym inside) over

    module _ (going : r.over ≡ false) where
      -- .. at the last tick too; ..
      pub last-refuses : r.clock ≡ ticks_most → 8 ≡ step_refusal r (quiet r)
      last-refuses last = refusal-8 r (quiet r) (sym inside) going last

      -- .. else it is accepted, ..
      pub quiet-passes : r.clock < ticks_most → step_refusal r (quiet r) ≡ 0
      quiet-passes soon =
          sym (refusal-0 r (quiet r) (sym inside) going (λ e. omega arith) (zeros-length (row_count r))
          (any_false (early r.clock r.next (quiet r)) (length (quiet r)) (λ k l. rw (none-arrive k)))
          (any_false (heavy (row_in r) (quiet r)) (length (quiet r))
          (λ k l. le-ltb (row_in r k).cost (get_or (quiet r) k 0) (omega (arith, none-arrive k)))))

  -- .. and is the tick.
  pub quiet_step : step_refusal r (quiet r) ≡ 0 → quietly r ≡ tick_on r
  quiet_step none = step-ticks due_of r (quiet r) none ∙ quiet-ticks

-- The first of the zeros that the code has in hand.
pub zeros-take : (count : ℕ) (none : List ℕ) → count ≤ row_places → none ≡ zeros row_places → take count none ≡ zeros count
unfolding zeros
zeros-take count none few e = ap (take count) e ∙ take-replicate count row_places few

pub zeros-take-length : (count : ℕ) (none : List ℕ) → count ≤ row_places → none ≡ zeros row_places → count ≡ length (take count none)
zeros-take-length count none few e = sym (ap length (zeros-take count none few e) ∙ zeros-length count)

-- As the code asks for it: of a run with more rows than there are places for any list will do.
pub quiet-near : (r : Run) (count : ℕ) → (r.task_count ≤ tasks_most → r.handler_count ≤ handlers_most → count ≡ row_count r)
    → step_of r (zeros count) ≡ quietly r
quiet-near r count same = go (out_of_bounds r) refl
  where
    go : (b : Bool) → out_of_bounds r ≡ b → step_of r (zeros count) ≡ quietly r
    go true e =
        step-refused due_of r (zeros count) 6 (refusal-6 r (zeros count) (sym e)) (λ z. omega arith)
        ∙ sym (step-refused due_of r (quiet r) 6 (refusal-6 r (quiet r) (sym e)) (λ z. omega arith))
    go false e =
        let fit = clauses-fit r (clauses r e) in
        ap (λ (n : ℕ). step_of r (zeros n)) (same fit.tasks fit.handlers)

-- ---- a tick without arrivals keeps a run in bounds, whatever the length of its arrays

module _ (r : Run) (inside : InBounds r) (going : r.over ≡ false) (soon : r.clock < ticks_most) where
  before : Clauses r
  before = clauses r inside

  abbrev after : Run
  after = stood r (r.clock + 1) (paid_by r.owed r.task_count (runner r) 1)

  owed-le : (k : ℕ) → get_or after.owed k 0 ≤ get_or r.owed k 0
  owed-le k = paid-least r.owed r.task_count (runner r) k

  places : places_used after ≡ false
  places =
      let owed : drop (row_count r) after.owed ≡ drop (row_count r) r.owed
      = ap (drop (row_count r)) (sym (paid-one r.owed r.task_count (runner r)))
      ∙ paid-drop (at r.due) r.owed r.task_count r.handler_count (runner r)
      (goes-to (at r.due) r.owed r.task_count r.handler_count) in
      rw owed before.places

  handler-owed : (i : ℕ) → i < r.handler_count
      → get_or after.owed (r.task_count + i) 0 ≤ (r.clock + 1) * (row_in r (r.task_count + i)).cost
  handler-owed i l =
      let k : ℕ = r.task_count + i in
      let cost : ℕ = (row_in r k).cost in
      let product : (r.clock + 1) * cost ≡ r.clock * cost + cost
      = add-mul r.clock 1 cost ∙ ap (λ (x : ℕ). r.clock * cost + x) (one-mul cost) in
      omega (arith, product, owed-le k, clauses-handler r before i l)

  tick-inside : InBounds after
  tick-inside =
      in_bounds after
      (record {
        counts = before.counts;
        figures = before.figures;
        own = before.own;
        places = places;
        clock = le-ltb ticks_most (r.clock + 1) (omega arith);
        next =
            any_false (too_far after.clock (row_in after) after.next) (row_count r)
            (λ k l. le-ltb (r.clock + 1 + (row_in r k).period) (get_or r.next k 0) (omega (arith, clauses-next r before k l)));
        tasks =
            any_false (too_much (row_in after) after.owed) r.task_count
            (λ k l. le-ltb (row_in r k).cost (get_or after.owed k 0) (omega (arith, owed-le k, clauses-task r before k l)));
        handlers =
            any_false (too_much_behind after.clock (row_in after) after.owed r.task_count) r.handler_count
            (λ i l. le-ltb _ _ (handler-owed i l));
        due =
            any_false (due_far after.clock (row_in after) after.due) r.task_count
            (λ k l. le-ltb (r.clock + 1 + (row_in r k).deadline) (get_or r.due k 0) (omega (arith, clauses-near r before k l)));
        ordered = any_false (due_behind after.next after.due) r.task_count (λ k l. le-ltb _ _ (clauses-ordered r before k l));
        deadlines =
            any_false (missed after.over after.clock (at after.due) after.owed) r.task_count
            (λ k l. not-missed after.over after.clock (get_or after.due k 0) (get_or after.owed k 0)
            (λ work. omega (arith, clauses-due r before going k l (omega (arith, owed-le k))))
            (λ on work same. nobody-late after.clock (at after.due) after.owed r.task_count k on l work same));
        late = names_same after.late;
        named = not_named after.late;
      })

-- A step without arrivals hands back a run in bounds, accepted or refused.
pub quiet-inside : (r : Run) → InBounds r → InBounds (quietly r).run
quiet-inside r inside = go (outcome due_of r (quiet r))
  where
    go : Outcome due_of r (quiet r) → InBounds (quietly r).run
    go (stays k e) = subst (λ (x : Stepped). InBounds x.run) (sym e) inside
    go (goes none e) =
        let p = passed r (quiet r) none in
        subst (λ (x : Stepped). InBounds x.run) (sym (quiet_step r none)) (tick-inside r inside p.going p.soon)
