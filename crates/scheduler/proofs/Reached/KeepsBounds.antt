-- An accepted step of a run in bounds hands back a run in bounds, clause by clause, whoever of those owed work runs.
use mathlib.Core.Bool.{Bool, true, false}
use mathlib.Core.List.{List}
use mathlib.Core.Path.{◌≡◌, refl, sym, ap, subst, ◌∙◌}
use native.Mathlib.Nat.{add-mul, one-mul}
use native.Mathlib.Omega.{arith}
use borrow.Author.Tests.{ltb-true, ltb-false, le-ltb}
use Prim.Native.Nat.{ℕ, ◌+◌, ◌*◌, ◌≤◌, ◌<◌}
use lib.Dec.{ltb}
use lib.ListN.{length, get_or, drop}
use Rattle.demand.specs.Limits.{tasks_most, ticks_most}
use Rattle.scheduler.specs.Bounds.{places_used, too_far, too_much, too_much_behind, due_far, due_behind, missed, InBounds}
use Rattle.scheduler.specs.Runs.{row_in, row_count, Shaped, row_places}
use Rattle.scheduler.specs.Scans.{at}
use Rattle.scheduler.specs.Steps.{early, heavy}
use Rattle.scheduler.specs.Tick.{next_after, due_after, next_arrived, due_arrived, owed_arrived, GoesTo, served}
use Rattle.scheduler.specs.declared.Ran.{Ran}
use Rattle.scheduler.specs.declared.Run.{Run}
use Rattle.scheduler.proofs.Steps.Answers.{Passed}
use Rattle.scheduler.proofs.Steps.Clauses.{Clauses, clauses, in_bounds, clauses-fit, clauses-next, clauses-task, clauses-handler, clauses-sound, clauses-near, clauses-ordered, clauses-due}
use Rattle.scheduler.proofs.Reached.Keeps.{Came, came, ahead-moves, ahead-stays, paid-le, paid-length, paid-drop, names_same, not_named, nobody-late, not-missed}
use Rattle.scheduler.proofs.Reached.Keeps.Came.{nothing, legal}
use Rattle.scheduler.proofs.Steps.Scan.{any_at, any_false, length-filled, filled-below, filled-drop}

module _ (r : Run) (ws : List ℕ) (shaped : Shaped r) (p : Passed r ws) where
  abbrev pub next_now : List ℕ
  next_now = next_arrived r.clock (row_in r) ws (row_count r) r.next

  abbrev pub due_now : List ℕ
  due_now = due_arrived r.clock (row_in r) ws r.task_count r.due

  abbrev pub owed_now : List ℕ
  owed_now = owed_arrived ws (row_count r) r.owed

  before : Clauses r
  before = clauses r p.in_bounds

  pub few : row_count r ≤ row_places
  few = let fit = clauses-fit r before in omega (arith, fit.tasks, fit.handlers)

  pub next-at : (k : ℕ) → k < row_count r → get_or next_now k 0 ≡ next_after r.clock (row_in r k) (get_or ws k 0) (get_or r.next k 0)
  unfolding next_arrived
  next-at k l = filled-below (λ j. next_after r.clock (row_in r j) (get_or ws j 0) (get_or r.next j 0)) (row_count r) k r.next l (omega (arith, few, shaped.next-long))

  due-at : (k : ℕ) → k < r.task_count → get_or due_now k 0 ≡ due_after r.clock (row_in r k) (get_or ws k 0) (get_or r.due k 0)
  unfolding due_arrived
  due-at k l =
      filled-below (λ j. due_after r.clock (row_in r j) (get_or ws j 0) (get_or r.due j 0)) r.task_count k r.due l
      (omega (arith, (clauses-fit r before).tasks, shaped.due-long))

  pub due-moves : (k : ℕ) → k < r.task_count → 0 < get_or ws k 0 → get_or due_now k 0 ≡ r.clock + (row_in r k).deadline
  due-moves k l some = due-at k l ∙ ahead-moves r.clock (row_in r k).deadline (get_or ws k 0) (get_or r.due k 0) some

  pub due-stays : (k : ℕ) → k < r.task_count → get_or ws k 0 ≡ 0 → get_or due_now k 0 ≡ get_or r.due k 0
  due-stays k l none = due-at k l ∙ ahead-stays r.clock (row_in r k).deadline (get_or ws k 0) (get_or r.due k 0) none

  pub due-length : length due_now ≡ tasks_most
  unfolding due_arrived
  due-length = length-filled _ r.task_count r.due ∙ shaped.due-long

  pub owed-at : (k : ℕ) → k < row_count r → get_or owed_now k 0 ≡ get_or r.owed k 0 + get_or ws k 0
  unfolding owed_arrived
  owed-at k l = filled-below (λ j. get_or r.owed j 0 + get_or ws j 0) (row_count r) k r.owed l (omega (arith, few, shaped.owed-long))

  pub owed-length : length owed_now ≡ row_places
  unfolding owed_arrived
  owed-length = length-filled _ (row_count r) r.owed ∙ shaped.owed-long

  pub arrival : (k : ℕ) → k < row_count r → Came r.clock (row_in r k) (get_or r.next k 0) (get_or ws k 0) (get_or next_now k 0)
  arrival k l =
      subst (Came r.clock (row_in r k) (get_or r.next k 0) (get_or ws k 0)) (sym (next-at k l))
      (came r.clock (row_in r k) (get_or r.next k 0) (get_or ws k 0)
      (any_at (early r.clock r.next ws) (row_count r) k p.timely l)
      (any_at (heavy (row_in r) ws) (row_count r) k p.light l))

  module _ (key : ℕ → ℕ) (ran : Ran) (goes : GoesTo key owed_now r.task_count r.handler_count ran) where
    abbrev after : Run
    after = (served r next_now due_now owed_now ran).run

    owed-le : (k : ℕ) → k < row_count r → get_or after.owed k 0 ≤ get_or r.owed k 0 + get_or ws k 0
    owed-le k l = omega (arith, paid-le owed_now r.task_count ran k, owed-at k l)

    places : places_used after ≡ false
    places =
        let next : drop (row_count r) next_now ≡ drop (row_count r) r.next = unfold next_arrived in filled-drop _ (row_count r) (row_count r) r.next (omega arith) in
        let due : drop r.task_count due_now ≡ drop r.task_count r.due = unfold due_arrived in filled-drop _ r.task_count r.task_count r.due (omega arith) in
        let arrived : drop (row_count r) owed_now ≡ drop (row_count r) r.owed = unfold owed_arrived in filled-drop _ (row_count r) (row_count r) r.owed (omega arith) in
        let owed = paid-drop key owed_now r.task_count r.handler_count ran goes ∙ arrived in
        rw (next, due, owed) before.places

    -- A next arrival is at most a period ahead.
    next-near : (k : ℕ) → k < row_count r → get_or next_now k 0 ≤ r.clock + 1 + (row_in r k).period
    next-near k l = go (arrival k l)
      where
        go : Came r.clock (row_in r k) (get_or r.next k 0) (get_or ws k 0) (get_or next_now k 0) → get_or next_now k 0 ≤ r.clock + 1 + (row_in r k).period
        go (nothing none same) = omega (arith, same, clauses-next r before k l)
        go (legal some moved early light) = omega (arith, moved)

    -- A task's deadline is at most its own ahead, ..
    due-near : (k : ℕ) → k < r.task_count → get_or due_now k 0 ≤ r.clock + 1 + (row_in r k).deadline
    due-near k l = go (arrival k (omega arith))
      where
        go : Came r.clock (row_in r k) (get_or r.next k 0) (get_or ws k 0) (get_or next_now k 0) → get_or due_now k 0 ≤ r.clock + 1 + (row_in r k).deadline
        go (nothing none same) = omega (arith, due-stays k l none, clauses-near r before k l)
        go (legal some moved early light) = omega (arith, due-moves k l some)

    -- .. and not after its next arrival.
    due-ordered : (k : ℕ) → k < r.task_count → get_or due_now k 0 ≤ get_or next_now k 0
    due-ordered k l = go (arrival k (omega arith))
      where
        go : Came r.clock (row_in r k) (get_or r.next k 0) (get_or ws k 0) (get_or next_now k 0) → get_or due_now k 0 ≤ get_or next_now k 0
        go (nothing none same) = omega (arith, same, due-stays k l none, clauses-ordered r before k l)
        go (legal some moved early light) = omega (arith, moved, due-moves k l some, (clauses-sound r before k l).fits)

    -- A task's arrival is legal only once nothing is owed.
    task-owed : (k : ℕ) → k < r.task_count → get_or after.owed k 0 ≤ (row_in r k).cost
    task-owed k l = go (arrival k (omega arith)) (ltb 0 (get_or r.owed k 0)) refl
      where
        go : Came r.clock (row_in r k) (get_or r.next k 0) (get_or ws k 0) (get_or next_now k 0) → (b : Bool) → ltb 0 (get_or r.owed k 0) ≡ b
            → get_or after.owed k 0 ≤ (row_in r k).cost
        go (nothing none same) b e = omega (arith, none, owed-le k (omega arith), clauses-task r before k l)
        go (legal some moved early light) true e = absurd (omega (arith, clauses-due r before p.going k l (ltb-true 0 (get_or r.owed k 0) e), clauses-ordered r before k l))
        go (legal some moved early light) false e = omega (arith, light, owed-le k (omega arith), ltb-false 0 (get_or r.owed k 0) e)

    handler-owed : (i : ℕ) → i < r.handler_count → get_or after.owed (r.task_count + i) 0 ≤ (r.clock + 1) * (row_in r (r.task_count + i)).cost
    handler-owed i l =
        let k : ℕ = r.task_count + i in
        let cost : ℕ = (row_in r k).cost in
        let product : (r.clock + 1) * cost ≡ r.clock * cost + cost = add-mul r.clock 1 cost ∙ ap (λ (x : ℕ). r.clock * cost + x) (one-mul cost) in
        omega (arith, product, owed-le k (omega arith), clauses-handler r before i l, ltb-false cost (get_or ws k 0) (any_at (heavy (row_in r) ws) (row_count r) k p.light (omega arith)))

    -- A task owed work has its deadline ahead or now.
    due-ahead : (k : ℕ) → k < r.task_count → 0 < get_or after.owed k 0 → r.clock + 1 ≤ get_or due_now k 0
    due-ahead k l work = go (arrival k (omega arith))
      where
        go : Came r.clock (row_in r k) (get_or r.next k 0) (get_or ws k 0) (get_or next_now k 0) → r.clock + 1 ≤ get_or due_now k 0
        go (nothing none same) = omega (arith, due-stays k l none, clauses-due r before p.going k l (omega (arith, none, owed-le k (omega arith))))
        go (legal some moved early light) = omega (arith, due-moves k l some, (clauses-sound r before k l).some)

    pub keeps-bounds : InBounds after
    keeps-bounds =
        in_bounds after
        (record {
          counts = before.counts;
          figures = before.figures;
          own = before.own;
          places = places;
          clock = le-ltb ticks_most (r.clock + 1) (omega (arith, p.soon));
          next = any_false (too_far after.clock (row_in after) after.next) (row_count r) (λ k l. le-ltb _ _ (next-near k l));
          tasks = any_false (too_much (row_in after) after.owed) r.task_count (λ k l. le-ltb _ _ (task-owed k l));
          handlers = any_false (too_much_behind after.clock (row_in after) after.owed r.task_count) r.handler_count (λ i l. le-ltb _ _ (handler-owed i l));
          due = any_false (due_far after.clock (row_in after) after.due) r.task_count (λ k l. le-ltb _ _ (due-near k l));
          ordered = any_false (due_behind after.next after.due) r.task_count (λ k l. le-ltb _ _ (due-ordered k l));
          deadlines =
              any_false (missed after.over after.clock (at after.due) after.owed) r.task_count (λ k l.
              not-missed after.over after.clock (get_or after.due k 0) (get_or after.owed k 0) (due-ahead k l) (λ going work same.
              nobody-late after.clock (at after.due) after.owed r.task_count k going l work same));
          late = names_same after.late;
          named = not_named after.late;
        })

    pub keeps-shape : Shaped after
    unfolding next_arrived
    keeps-shape = record {
      tasks-long = shaped.tasks-long;
      handlers-long = shaped.handlers-long;
      next-long = length-filled _ (row_count r) r.next ∙ shaped.next-long;
      due-long = due-length;
      owed-long = paid-length owed_now r.task_count ran ∙ owed-length;
    }
