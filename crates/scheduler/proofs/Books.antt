-- The books balance: over each step, over any offers, and so from a fresh run.
use mathlib.Core.List.{List, [], ◌∷◌}
use mathlib.Core.Path.{◌≡◌, refl, sym, ap, ◌∙◌}
use native.Mathlib.Omega.{arith}
use Prim.Native.Nat.{ℕ, ◌+◌, ◌≤◌, ◌<◌}
use lib.ListN.{length, get_or, take, length-take}
use lib.Seq.{length-take-le, get_or-take}
use Rattle.demand.specs.Rows.{tasks_of, handlers_of}
use Rattle.scheduler.specs.Books.{sum, bringing, ticking, busy, brought_by, busy_by, owed_in, Balance}
use Rattle.machine.specs.Live.{Live}
use Rattle.scheduler.specs.Reached.{offered_by, WellMade}
use Rattle.scheduler.specs.Runs.{row_count, Shaped, row_places}
use Rattle.scheduler.specs.Start.{zeros, fresh_of, fresh_run}
use Rattle.scheduler.specs.Steps.{step_by}
use Rattle.scheduler.specs.Tick.{GoesTo, paid, key_with, goes_to, ticked_by}
use Rattle.scheduler.specs.declared.Ran.{Ran}
use Rattle.scheduler.specs.declared.Ran.TheVariants.{Handler, Task, Idle}
use Rattle.scheduler.specs.declared.Run.{Run}
use Rattle.scheduler.proofs.Steps.Answers.{Passed, passed, Outcome, outcome}
use Rattle.scheduler.proofs.Reached.FreshBounds.{zeros-at, ready-run}
use Rattle.scheduler.proofs.Steps.Goes.{goes-to}
use Rattle.scheduler.proofs.Steps.Answers.Outcome.{stays, goes}
use Rattle.scheduler.proofs.Reached.{fresh-in-bounds, step-in-bounds}
use Rattle.scheduler.proofs.Reached.KeepsBounds.{next_now, due_now, owed_now, few, owed-at, owed-length}
use Rattle.scheduler.proofs.Books.Sums.{sum-add, sum-zero, sum_less}
pub mod Sums

-- The tick takes a unit of the work owed, unless it is idle.
paid-sum : (key : ℕ → ℕ) (owed : List ℕ) (n m : ℕ) (ran : Ran) → n + m ≤ length owed → GoesTo key owed n m ran
    → sum (take (n + m) (paid owed n ran)) + ticking ran ≡ sum (take (n + m) owed)
unfolding GoesTo
paid-sum key owed n m (Handler i) long g = sum_less (n + m) owed (n + i) (omega (arith, g.row)) long g.work
paid-sum key owed n m (Task i) long g = sum_less (n + m) owed i (omega (arith, g.row)) long g.work
paid-sum key owed n m Idle long g = omega arith

-- Arrivals add what they bring.
module _ (r : Run) (ws : List ℕ) (shaped : Shaped r) (p : Passed r ws) where
  arrived-sum : sum (take (row_count r) (owed_now r ws shaped p)) ≡ owed_in r + sum ws
  unfolding owed_in
  arrived-sum =
      let n : ℕ = row_count r in
      let long : n ≤ row_places = few r ws shaped p in
      let old : length (take n r.owed) ≡ n = length-take-le n r.owed (omega (arith, shaped.owed-long)) in
      let new : length (take n (owed_now r ws shaped p)) ≡ n = length-take-le n (owed_now r ws shaped p) (omega (arith, owed-length r ws shaped p)) in
      sum-add (take n r.owed) ws (take n (owed_now r ws shaped p)) (old ∙ sym p.count) (new ∙ sym p.count)
      (λ j l.
      let below : j < n = omega (arith, p.count) in
      get_or-take n (owed_now r ws shaped p) j 0 below ∙ owed-at r ws shaped p j below ∙ ap (λ (x : ℕ). x + get_or ws j 0) (sym (get_or-take n r.owed j 0 below)))

  -- So over an accepted step.
  ticked-sum : (key : Live → ℕ) → bringing (ticked_by key r ws).answer ws + owed_in r ≡ busy (ticked_by key r ws).answer + owed_in (ticked_by key r ws).run
  unfolding ticked_by owed_in
  ticked-sum key =
      let next = next_now r ws shaped p in
      let due = due_now r ws shaped p in
      let owed = owed_now r ws shaped p in
      let key-at : ℕ → ℕ = key_with key r next due owed in
      let n : ℕ = r.task_count in
      let m : ℕ = r.handler_count in
      let pays = paid-sum key-at owed n m (goes_to key-at owed n m) (omega (arith, few r ws shaped p, owed-length r ws shaped p)) (goes-to key-at owed n m) in
      omega (arith, pays, arrived-sum)

step-balance : (key : Live → ℕ) (r : Run) (ws : List ℕ) → WellMade r
    → bringing (step_by key r ws).answer ws + owed_in r ≡ busy (step_by key r ws).answer + owed_in (step_by key r ws).run
step-balance key r ws s = go (outcome key r ws)
  where
    go : Outcome key r ws → bringing (step_by key r ws).answer ws + owed_in r ≡ busy (step_by key r ws).answer + owed_in (step_by key r ws).run
    go (stays k e) = rw e
    go (goes none e) = rw e (ticked-sum r ws s.shaped (passed r ws none) key)

pub offered-balance : (key : Live → ℕ) (offers : List (List ℕ)) (r : Run) → WellMade r
    → brought_by key offers r + owed_in r ≡ busy_by key offers r + owed_in (offered_by key offers r)
unfolding brought_by busy_by offered_by
offered-balance key [] r s = refl
offered-balance key (ws ∷ offers) r s =
    omega (arith, step-balance key r ws s, offered-balance key offers (step_by key r ws).run (step-in-bounds key r ws s))

-- A fresh run owes nothing.
fresh-owes : (t h : List ℕ) → owed_in (fresh_run t h) ≡ 0
unfolding owed_in fresh_run
fresh-owes t h =
    let n : ℕ = length (tasks_of t) + length (handlers_of h) in
    sum-zero (take n (zeros row_places)) (λ j l. get_or-take n (zeros row_places) j 0 (omega (arith, length-take n (zeros row_places))) ∙ zeros-at row_places j)

pub balance : Balance
balance key t h e offers =
    omega (arith, offered-balance key offers (fresh_of t h).run (fresh-in-bounds t h e), ap owed_in (ready-run t h e), fresh-owes t h)
