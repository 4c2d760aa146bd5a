-- Arrivals of a run are arrivals of its state, and what is accepted is what is legal there.
use mathlib.Core.Bool.{false}
use mathlib.Core.List.{List}
use mathlib.Core.Logic.{◌⊎◌, inl, inr}
use mathlib.Core.Path.{◌≡◌, sym, ap, ◌∙◌}
use native.Mathlib.Nat.{zero-add, eq-zero-or-pos}
use native.Mathlib.Omega.{arith}
use Prim.Native.Nat.{ℕ, ◌+◌, ◌-◌, ◌≤◌, ◌<◌}
use lib.ListN.{length, get_or}
use Rattle.demand.proofs.Divide.{le-or-lt}
use Rattle.demand.specs.Limits.{tasks_most, ticks_most}
use Rattle.demand.specs.Rows.{Row}
use Rattle.guarantees.specs.LegalArrivals.{Accepted, LegalArrival}
use Rattle.machine.specs.Live.{arrive_all}
use Rattle.machine.specs.Places.{live_of}
use Rattle.machine.specs.Inside.Legal.{LegalAll, LegalTick}
use Rattle.machine.specs.Inside.Listed.{Listed}
use Rattle.scheduler.specs.Reached.{WellMade}
use Rattle.scheduler.specs.Runs.{row_in, row_count, task_rows, handler_rows, row_places}
use Rattle.scheduler.specs.Tick.{next_arrived}
use Rattle.guarantees.specs.View.{part, seen, view_of, offer_of}
use Rattle.scheduler.specs.declared.Run.{Run}
use Rattle.scheduler.proofs.Steps.Answers.{Passed}
use Rattle.machine.proofs.FlatArrive.{arrive-flat, legal-flat}
use Rattle.machine.proofs.FlatFacts.{flat-legal}
use Rattle.scheduler.proofs.Reached.KeepsBounds.{next_now, due_now, due-moves, due-stays, due-length, owed_now, owed-at, owed-length}
use Rattle.guarantees.proofs.LegalArrivals.{passed-legal, passed-moves, passed-waits, legal-accepted}
use Rattle.guarantees.proofs.View.Parts.{part_length, part_at}
use Rattle.scheduler.proofs.Steps.Scan.{length-filled}
use Rattle.guarantees.proofs.View.Rows.{Rows, rows_fit, well-made-fits, task-rows, handler-rows, handler-deadline}

-- A deadline for each row: those of tasks, and the next arrivals of handlers.
module _ (r : Run) (s : WellMade r) where
  pub tasks-due : length (part 0 r.task_count r.due) ≡ r.task_count
  tasks-due = part_length 0 r.task_count r.due (omega (arith, (well-made-fits r s).tasks, s.shaped.due-long))

  pub handlers-due : length (part r.task_count r.handler_count r.next) ≡ r.handler_count
  handlers-due = part_length r.task_count r.handler_count r.next (omega (arith, (handler-rows r s).within, s.shaped.next-long))

-- ---- what is legal

module _ (r : Run) (ws : List ℕ) (s : WellMade r) (count : length ws ≡ row_count r) where
  abbrev LegalAt : ℕ → Type 0
  LegalAt k = LegalArrival r k (get_or ws k 0)

  -- Of the rows rs, which are those from place a on: legal at each place, so in the state.
  part-legal : (a n : ℕ) (rs : List Row) (ds : List ℕ) → Rows r a n rs → a + n ≤ row_count r → ((k : ℕ) → k < row_count r → LegalAt k)
      → LegalAll r.clock (part a n ws) (live_of rs (part a n r.next) ds (part a n r.owed))
  part-legal a n rs ds w inside each =
      legal-flat r.clock (part a n ws) rs (part a n r.next) ds (part a n r.owed)
      (λ j l some.
      let below : j < n = omega (arith, part_length a n ws (omega arith)) in
      rw (part_at a n ws j below, w.row-at j below, part_at a n r.next j below)
      ((each (a + j) (omega arith)).in-time (rw (part_at a n ws j below) at some), (each (a + j) (omega arith)).in-cost))

  -- And the reverse.
  legal-part : (a n : ℕ) (rs : List Row) (ds : List ℕ) → Rows r a n rs → length ds ≡ n → a + n ≤ row_count r
      → LegalAll r.clock (part a n ws) (live_of rs (part a n r.next) ds (part a n r.owed)) → (j : ℕ) → j < n → LegalAt (a + j)
  legal-part a n rs ds w many inside legal j l = go (eq-zero-or-pos (get_or ws (a + j) 0))
    where
      fits : Listed rs (part a n r.next) ds (part a n r.owed)
      fits = rows_fit w r.next ds r.owed s.shaped.next-long many s.shaped.owed-long

      at_place : 0 < get_or ws (a + j) 0 → (get_or r.next (a + j) 0 ≤ r.clock) × (get_or ws (a + j) 0 ≤ (row_in r (a + j)).cost)
      at_place some =
          rw (part_at a n ws j l, w.row-at j l, part_at a n r.next j l) at
          (flat-legal r.clock (part a n ws) rs (part a n r.next) ds (part a n r.owed) (part_length a n ws (omega arith) ∙ sym w.count) fits legal j
          (omega (arith, w.count)) (rw (part_at a n ws j l) some))

      go : (get_or ws (a + j) 0 ≡ 0) ⊎ (0 < get_or ws (a + j) 0) → LegalAt (a + j)
      go (inl none) = record { in-time = λ some. absurd (omega arith); in-cost = omega arith }
      go (inr work) = record { in-time = λ some. (at_place work).0; in-cost = (at_place work).1 }

  pub each-legal : ((k : ℕ) → k < row_count r → LegalAt k) → LegalTick (offer_of r ws) (view_of r)
  each-legal each = (
    part-legal 0 r.task_count (task_rows r) _ (task-rows r s) (omega arith) each,
    part-legal r.task_count r.handler_count (handler_rows r) _ (handler-rows r s) (omega arith) each,
  )

  pub legal-each : LegalTick (offer_of r ws) (view_of r) → (k : ℕ) → k < row_count r → LegalAt k
  legal-each legal k l = go (le-or-lt r.task_count k)
    where
      go : (r.task_count ≤ k) ⊎ (k < r.task_count) → LegalAt k
      go (inl behind) =
          let i : ℕ = k - r.task_count in
          let same : r.task_count + i ≡ k = omega arith in
          rw same at (legal-part r.task_count r.handler_count (handler_rows r) _ (handler-rows r s) (handlers-due r s) (omega arith) legal.1 i (omega arith))
      go (inr front) = rw (zero-add k) at (legal-part 0 r.task_count (task_rows r) _ (task-rows r s) (tasks-due r s) (omega arith) legal.0 k front)

-- So an accepted step has legal arrivals, ..
pub passed-tick : (r : Run) (ws : List ℕ) → WellMade r → Passed r ws → LegalTick (offer_of r ws) (view_of r)
passed-tick r ws s p = each-legal r ws s p.count (λ k l. passed-legal r ws s.shaped p k l)

-- .. and legal arrivals are accepted.
pub tick-accepted : (r : Run) (ws : List ℕ) → WellMade r → r.over ≡ false → r.clock < ticks_most → length ws ≡ row_count r → LegalTick (offer_of r ws) (view_of r) → Accepted r ws
tick-accepted r ws s going soon count legal = legal-accepted r ws s going soon count (legal-each r ws s count legal)

-- ---- what they make of the state

module _ (r : Run) (ws : List ℕ) (s : WellMade r) (p : Passed r ws) where
  pub next-length : length (next_now r ws s.shaped p) ≡ row_places
  unfolding next_arrived
  next-length = length-filled _ (row_count r) r.next ∙ s.shaped.next-long

  -- Of the rows rs, which are those from place a on, where an arrival makes the deadlines `new` of those that were `old`.
  part-arrives : (a n : ℕ) (rs : List Row) (old new : List ℕ) → Rows r a n rs → a + n ≤ row_count r → a + n ≤ length old → a + n ≤ length new
      → ((k : ℕ) → k < a + n → get_or ws k 0 ≡ 0 → get_or new k 0 ≡ get_or old k 0)
      → ((j : ℕ) → j < n → 0 < get_or ws (a + j) 0 → get_or new (a + j) 0 ≡ r.clock + (row_in r (a + j)).deadline)
      → arrive_all r.clock (part a n ws) (live_of rs (part a n r.next) (part a n old) (part a n r.owed))
      ≡ live_of rs (part a n (next_now r ws s.shaped p)) (part a n new) (part a n (owed_now r ws s.shaped p))
  part-arrives a n rs old new w inside long-old long-new waits moves =
      let next = next_now r ws s.shaped p in
      let owed = owed_now r ws s.shaped p in
      arrive-flat r.clock (part a n ws) rs (part a n r.next) (part a n old) (part a n r.owed) (part a n next) (part a n new) (part a n owed)
      (part_length a n ws (omega (arith, p.count)) ∙ sym w.count)
      (rows_fit w r.next (part a n old) r.owed s.shaped.next-long (part_length a n old long-old) s.shaped.owed-long)
      (rows_fit w next (part a n new) owed next-length (part_length a n new long-new) (owed-length r ws s.shaped p))
      (λ j l.
      let below : j < n = omega (arith, w.count) in
      let k : a + j < row_count r = omega arith in
      rw (
        part_at a n ws j below,
        w.row-at j below,
        part_at a n r.next j below,
        part_at a n old j below,
        part_at a n r.owed j below,
        part_at a n next j below,
        part_at a n new j below,
        part_at a n owed j below,
      )
      (record {
        stays = passed-waits r ws s.shaped p (a + j) k;
        moves = passed-moves r ws s.shaped p (a + j) k;
        due-stays = waits (a + j) (omega arith);
        due-moves = moves j below;
        adds = owed-at r ws s.shaped p (a + j) k;
      }))

  pub tasks-arrive : arrive_all r.clock (offer_of r ws).to_tasks (view_of r).tasks
      ≡ (seen r r.clock (next_now r ws s.shaped p) (due_now r ws s.shaped p) (owed_now r ws s.shaped p)).tasks
  tasks-arrive =
      let n : ℕ = r.task_count in
      let few : n ≤ tasks_most = (well-made-fits r s).tasks in
      part-arrives 0 n (task_rows r) r.due (due_now r ws s.shaped p) (task-rows r s) (omega arith)
      (omega (arith, s.shaped.due-long))
      (omega (arith, due-length r ws s.shaped p))
      (λ k l. due-stays r ws s.shaped p k (omega arith))
      (λ j l. due-moves r ws s.shaped p (0 + j) (omega arith))

  pub handlers-arrive : arrive_all r.clock (offer_of r ws).to_handlers (view_of r).handlers
      ≡ (seen r r.clock (next_now r ws s.shaped p) (due_now r ws s.shaped p) (owed_now r ws s.shaped p)).handlers
  handlers-arrive =
      let n : ℕ = r.task_count in
      let m : ℕ = r.handler_count in
      let next = next_now r ws s.shaped p in
      let w = handler-rows r s in
      part-arrives n m (handler_rows r) r.next next w (omega arith)
      (omega (arith, w.within, s.shaped.next-long))
      (omega (arith, w.within, next-length))
      (λ k l. passed-waits r ws s.shaped p k l)
      (λ i l some. passed-moves r ws s.shaped p (n + i) (omega arith) some ∙ ap (λ (x : ℕ). r.clock + x) (sym (handler-deadline r s i l)))
