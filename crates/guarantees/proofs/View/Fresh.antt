-- A fresh run is well made, not over, and seen as the machine's fresh state.
use mathlib.Core.Bool.{false}
use mathlib.Core.List.{List}
use mathlib.Core.Path.{◌≡◌, refl, ap, ◌∙◌}
use native.Mathlib.Omega.{arith}
use Prim.Native.Nat.{ℕ, ◌+◌, ◌-◌, ◌*◌, ◌≤◌, ◌<◌}
use lib.ListN.{length, get_or, replicate}
use lib.Seq.{take_at}
use Rattle.demand.specs.Limits.{tasks_most}
use Rattle.demand.specs.Refusals.{table_refusal}
use Rattle.demand.specs.Rows.{Row, tasks_of, handlers_of}
use Rattle.machine.specs.Live.{idle}
use Rattle.machine.specs.Machine.{fresh_state}
use Rattle.machine.specs.Places.{live_of}
use Rattle.scheduler.specs.Reached.{WellMade}
use Rattle.scheduler.specs.Runs.{task_rows, handler_rows, task_numbers, handler_numbers, row_places}
use Rattle.scheduler.specs.Start.{padded, zeros, fresh_run, fresh_of}
use Rattle.guarantees.specs.View.{part, view_of}
use Rattle.scheduler.specs.declared.Fresh.{Fresh}
use Rattle.scheduler.specs.declared.Run.{Run}
use Rattle.machine.proofs.FlatFacts.{flat-idle}
use Rattle.scheduler.proofs.Reached.FreshBounds.{zeros-at, zeros-length, fresh-bounds, fresh-shape}
use Rattle.guarantees.proofs.View.Parts.{part_length, part_at}
use Rattle.scheduler.proofs.Steps.Tables.{whole, fresh-ready}
use Rattle.guarantees.proofs.View.Rows.{Rows, rows_fit, well-made-fits, task-rows, handler-rows}

module _ (t h : List ℕ) (e : table_refusal t h ≡ 0) where
  pub fresh-run : (fresh_of t h).run ≡ fresh_run t h
  fresh-run = ap (λ (x : Fresh). x.run) (fresh-ready t h e)

  pub fresh-well-made : WellMade (fresh_run t h)
  fresh-well-made = record { in_bounds = fresh-bounds t h e; shaped = fresh-shape t h e }

  pub fresh-going : (fresh_run t h).over ≡ false
  unfolding fresh_run
  fresh-going = refl

  -- Its rows are those of the table.
  pub fresh-tasks : task_rows (fresh_run t h) ≡ tasks_of t
  unfolding task_rows fresh_run padded
  fresh-tasks = ap tasks_of (take_at t (replicate (task_numbers - length t) 0) (3 * length (tasks_of t)) (whole t h e).tasks)

  pub fresh-handlers : handler_rows (fresh_run t h) ≡ handlers_of h
  unfolding handler_rows fresh_run padded
  fresh-handlers = ap handlers_of (take_at h (replicate (handler_numbers - length h) 0) (2 * length (handlers_of h)) (whole t h e).handlers)

  -- They are idle.
  part-idle : (a n k : ℕ) (rs : List Row) → Rows (fresh_run t h) a n rs → a + n ≤ k
      → live_of rs (part a n (fresh_run t h).next) (part a n (zeros k)) (part a n (fresh_run t h).owed) ≡ idle rs
  unfolding fresh_run
  part-idle a n k rs w long =
      let shaped = fresh-shape t h e in
      let none : (m j : ℕ) → j < n → get_or (part a n (zeros m)) j 0 ≡ 0 = λ m j l. part_at a n (zeros m) j l ∙ zeros-at m (a + j) in
      flat-idle rs (part a n (zeros row_places)) (part a n (zeros k)) (part a n (zeros row_places))
      (rows_fit w (zeros row_places) (part a n (zeros k)) (zeros row_places) shaped.next-long (part_length a n (zeros k) (omega (arith, zeros-length k))) shaped.owed-long)
      (λ j l.
      let below : j < n = omega (arith, w.count) in
      (none row_places j below, none k j below, none row_places j below))

  pub fresh-view : view_of (fresh_run t h) ≡ fresh_state (tasks_of t) (handlers_of h)
  unfolding fresh_run
  fresh-view =
      let r : Run = fresh_run t h in
      let clock : r.clock ≡ 0 = unfold fresh_run in refl in
      let few : r.task_count ≤ tasks_most = (well-made-fits r fresh-well-made).tasks in
      let behind = handler-rows r fresh-well-made in
      let tasks = part-idle 0 r.task_count tasks_most (task_rows r) (task-rows r fresh-well-made) (omega arith) ∙ ap idle fresh-tasks in
      let handlers = part-idle r.task_count r.handler_count row_places (handler_rows r) behind behind.within ∙ ap idle fresh-handlers in
      λ i. record { clock = clock i; tasks = tasks i; handlers = handlers i }
