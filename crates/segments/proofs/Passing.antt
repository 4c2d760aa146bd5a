-- An accepted schedule is one that meets every deadline, and so no length up to its span fails.
use mathlib.Core.List.{List}
use mathlib.Core.Path.{◌≡◌, refl}
use native.Mathlib.Nat.{zero-add, sub-zero}
use native.Mathlib.Omega.{arith}
use Prim.Native.Nat.{ℕ, zero, suc, ◌+◌, ◌≤◌}
use Rattle.demand.specs.Rows.{Row, Positive, Valid}
use Rattle.demand.proofs.Sums.{valid-positive}
use Rattle.machine.specs.Live.{Live, arrive_all}
use Rattle.machine.specs.Schedules.{beats, ran-none, Gave, to-handlers, to-tasks, Timely, start, onward}
use Rattle.machine.proofs.Lateness.{timely-passes}
use Rattle.segments.specs.Given.{Who, nobody, task, handler, to_task, to_handler, task_ticks, handler_ticks}
use Rattle.segments.specs.Passing.{AcceptedPasses}
use Rattle.segments.specs.Rules.{Owed, First, Accepted}
use Rattle.segments.proofs.Timely.Called.{Low, low}
use Rattle.segments.proofs.Timely.Lives.{lives, lives-zero, lives-same, ran-lives}
use Rattle.segments.proofs.Timely.Lives.{none-owed, arrived-lives, below-list, on-time-lives}

module _ (ts hs : List Row) (vt : Valid ts) (ph : Positive hs) (σ : ℕ → Who) (L : ℕ) (acc : Accepted ts hs σ L) where
  -- The rows at work where the ticks before t were given and the arrivals before n have come.
  abbrev task_lives : ℕ → ℕ → List Live
  task_lives t n = lives (λ i. task_ticks σ i t) 0 n ts

  abbrev handler_lives : ℕ → ℕ → List Live
  handler_lives t n = lives (λ j. handler_ticks σ j t) 0 n hs

  -- Whoever gets the tick, it is given as a schedule that puts handlers first gives it.
  tick-gave : (t : ℕ) (w : Who) → σ t ≡ w → Owed ts hs σ t w → First hs σ t w
      → Gave (task_lives t (suc t)) (handler_lives t (suc t)) (task_lives (suc t) (suc t)) (handler_lives (suc t) (suc t))
  unfolding task_ticks handler_ticks
  tick-gave t nobody e o f =
      rw (
        lives-same (λ i. task_ticks σ i t) (λ i. task_ticks σ i t + to_task (σ t) i) 0 (suc t) ts (λ m h. (rw e (omega arith))),
        lives-same (λ i. handler_ticks σ i t) (λ i. handler_ticks σ i t + to_handler (σ t) i) 0 (suc t) hs (λ m h. (rw e (omega arith))),
      )
      (to-handlers ran-none)
  tick-gave t (task i) e o f =
      rw (lives-same (λ i. handler_ticks σ i t) (λ i. handler_ticks σ i t + to_handler (σ t) i) 0 (suc t) hs (λ m h. (rw e (omega arith))))
      (to-tasks (none-owed (λ i. handler_ticks σ i t) 0 (suc t) hs (λ m. rw (zero-add m) (f m)))
      (ran-lives (λ i. task_ticks σ i t) (λ i. task_ticks σ i t + to_task (σ t) i) i 0 (suc t) ts (omega arith) (rw (sub-zero i) o)
      (λ m. rw e)))
  tick-gave t (handler j) e o f =
      rw (lives-same (λ i. task_ticks σ i t) (λ i. task_ticks σ i t + to_task (σ t) i) 0 (suc t) ts (λ m h. (rw e (omega arith))))
      (to-handlers
      (ran-lives (λ i. handler_ticks σ i t) (λ i. handler_ticks σ i t + to_handler (σ t) i) j 0 (suc t) hs (omega arith) (rw (sub-zero j) o)
      (λ m. rw e)))

  -- Up to every clock within the span.
  pub accepted-timely : (t : ℕ) → t ≤ L → Timely ts hs t (task_lives t t) (handler_lives t t)
  accepted-timely zero l = rw (lives-zero (λ i. task_ticks σ i 0) 0 ts, lives-zero (λ j. handler_ticks σ j 0) 0 hs) start
  accepted-timely (suc t) l =
      let b : Low ts hs σ t = low ts hs σ L acc.ticks t (omega arith) in
      let et : arrive_all t (beats t ts) (task_lives t t) ≡ task_lives t (suc t) =
      arrived-lives (λ i. task_ticks σ i t) 0 t ts (valid-positive ts vt)
      (below-list (λ i. task_ticks σ i t) 0 t ts (λ m. rw (zero-add m) (b.0 m))) in
      let eh : arrive_all t (beats t hs) (handler_lives t t) ≡ handler_lives t (suc t) =
      arrived-lives (λ j. handler_ticks σ j t) 0 t hs ph (below-list (λ j. handler_ticks σ j t) 0 t hs (λ m. rw (zero-add m) (b.1 m))) in
      let gave : Gave (arrive_all t (beats t ts) (task_lives t t)) (arrive_all t (beats t hs) (handler_lives t t)) (task_lives (suc t) (suc t))
      (handler_lives (suc t) (suc t)) =
      rw (et, eh) (tick-gave t (σ t) refl (acc.ticks t l).owed (acc.ticks t l).first) in
      onward (accepted-timely t (omega arith)) gave
      (on-time-lives (λ i. task_ticks σ i (suc t)) 0 (suc t) ts (λ m k e. rw (zero-add m) (acc.clocks (suc t) l m k e)))

-- What is accepted up to a span passes at each length up to it.
pub accepted-passes : AcceptedPasses
accepted-passes ts hs vt ph σ L acc l h = timely-passes ts hs vt ph l _ _ (accepted-timely ts hs vt ph σ L acc l h)
