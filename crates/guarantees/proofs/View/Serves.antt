-- The one to whom a run's tick goes is the one who runs in its state. Said for any key, of which the deadline is one.
use mathlib.Core.List.{List}
use mathlib.Core.Path.{◌≡◌, refl, sym, ap, ◌∙◌}
use native.Mathlib.Nat.{zero-add}
use native.Mathlib.Numerals.{add-one}
use native.Mathlib.Omega.{arith}
use Prim.Native.Nat.{ℕ, zero, suc, ◌+◌, ◌-◌, ◌≤◌, ◌<◌}
use lib.ListN.{length, get_or, set}
use Rattle.demand.specs.Limits.{tasks_most}
use Rattle.demand.specs.Rows.{row_at}
use Rattle.machine.specs.Live.{Live, owed_all}
use Rattle.machine.specs.Machine.{State, serve, serve_by, given_by}
use Rattle.machine.specs.Places.{live_of}
use Rattle.machine.specs.Inside.Listed.{live_at, Listed}
use Rattle.scheduler.specs.Reached.{WellMade}
use Rattle.scheduler.specs.Runs.{row_in, task_rows, handler_rows, row_places}
use Rattle.scheduler.specs.Tick.{ToHandler, ToTask, ToNobody, GoesTo, less, paid, key_with}
use Rattle.guarantees.specs.View.{part, seen}
use Rattle.scheduler.specs.declared.Ran.{Ran}
use Rattle.scheduler.specs.declared.Ran.TheVariants.{Handler, Task, Idle}
use Rattle.scheduler.specs.declared.Run.{Run}
use Rattle.machine.proofs.Choice.{serve-by-idle, idle-owes-none}
use Rattle.machine.proofs.Flat.{serve-by-flat, serve-flat, idle-flat}
use Rattle.machine.proofs.FlatFacts.{flat-owed}
use Rattle.guarantees.proofs.View.Parts.{part_length, part_at, part-set, part-after, front_at, front-set, front-before}
use Rattle.guarantees.proofs.View.Rows.{rows_fit, well-made-fits, task-rows, handler-rows}

module _ (key : Live → ℕ) (r : Run) (s : WellMade r) (next due owed : List ℕ) (next-long : length next ≡ row_places) (due-long : length due ≡ tasks_most) (owed-long : length owed ≡ row_places) where
  abbrev n : ℕ
  n = r.task_count

  abbrev m : ℕ
  m = r.handler_count

  abbrev now : State
  now = seen r r.clock next due owed

  fit-tasks : Listed (task_rows r) (part 0 n next) (part 0 n due) (part 0 n owed)
  fit-tasks = rows_fit (task-rows r s) next (part 0 n due) owed next-long (part_length 0 n due (omega (arith, due-long, (well-made-fits r s).tasks))) owed-long

  fit-handlers : Listed (handler_rows r) (part n m next) (part n m next) (part n m owed)
  fit-handlers = rows_fit (handler-rows r s) next (part n m next) owed next-long (part_length n m next (omega (arith, next-long, (handler-rows r s).within))) owed-long

  -- The key of a task is that of the row at work at its place.
  task-key : (j : ℕ) → j < n → key (live_at (task_rows r) (part 0 n next) (part 0 n due) (part 0 n owed) j) ≡ key_with key r next due owed j
  task-key j l =
      let row : row_at (task_rows r) j ≡ row_in r j = (task-rows r s).row-at j l ∙ ap (row_in r) (zero-add j) in
      rw (row, front_at n next j l, front_at n due j l, front_at n owed j l)

  -- What the tick makes of the state, where it goes to ran.
  abbrev pub After : Ran → Type 0
  After ran = seen r (r.clock + 1) next due (paid owed n ran) ≡ given_by (serve_by key) (owed_all now.handlers) r.clock now.tasks now.handlers

  to-handler : (i : ℕ) → ToHandler owed n m i → After (Handler i)
  to-handler i g = go (owed_all now.handlers) refl (get_or owed (n + i) 0) refl
    where
      go : (o : ℕ) → owed_all now.handlers ≡ o → (x : ℕ) → get_or owed (n + i) 0 ≡ x
          → seen r (r.clock + 1) next due (less owed (n + i)) ≡ given_by (serve_by key) o r.clock now.tasks now.handlers
      go zero none x e =
          absurd (omega (arith, g.work, part_at n m owed i g.row, flat-owed (handler_rows r) (part n m next) (part n m next) (part n m owed) i fit-handlers (omega (arith, g.row, (handler-rows r s).count))))
      go (suc o) some zero e = absurd (omega (arith, g.work))
      go (suc o) some (suc x) e =
          let left : get_or owed (n + i) 0 - 1 ≡ x = omega arith in
          let handlers : part n m (less owed (n + i)) ≡ set (part n m owed) i x = rw left (part-set n m owed i x g.row) in
          let tasks : part 0 n (less owed (n + i)) ≡ part 0 n owed = front-before n owed (n + i) (get_or owed (n + i) 0 - 1) (omega arith) in
          let served : serve now.handlers ≡ live_of (handler_rows r) (part n m next) (part n m next) (set (part n m owed) i x) =
          serve-flat (handler_rows r) (part n m next) (part n m next) (part n m owed) i x fit-handlers
          (omega (arith, g.row, (handler-rows r s).count, fit-handlers.owes))
          (part_at n m owed i g.row ∙ e)
          (λ j l. part_at n m owed j (omega (arith, g.row)) ∙ g.first j l) in
          λ t. record {
            clock = add-one r.clock t;
            tasks = live_of (task_rows r) (part 0 n next) (part 0 n due) (tasks t);
            handlers = (ap (live_of (handler_rows r) (part n m next) (part n m next)) handlers ∙ sym served) t;
          }

  -- No handler is owed work.
  none-owed : ((j : ℕ) → j < m → get_or owed (n + j) 0 ≡ 0) → owed_all now.handlers ≡ 0
  none-owed none =
      idle-owes-none now.handlers
      (idle-flat (handler_rows r) (part n m next) (part n m next) (part n m owed)
      (λ j l.
      let below : j < m = omega (arith, fit-handlers.owes, (handler-rows r s).count) in
      part_at n m owed j below ∙ none j below))

  to-task : (i : ℕ) → ToTask (key_with key r next due owed) owed n m i → After (Task i)
  to-task i g = rw (none-owed g.no-handler) (go (get_or owed i 0) refl)
    where
      -- A task that is owed work, by its place in the state.
      owing : (j : ℕ) → j < n → 0 < get_or (part 0 n owed) j 0 → 0 < get_or owed j 0
      owing j l some = rw (front_at n owed j l) at some

      above : (j : ℕ) → j < i → 0 < get_or (part 0 n owed) j 0
          → key (live_at (task_rows r) (part 0 n next) (part 0 n due) (part 0 n owed) i) < key (live_at (task_rows r) (part 0 n next) (part 0 n due) (part 0 n owed) j)
      above j l some =
          let below : j < n = omega (arith, g.row) in
          let work : 0 < get_or owed j 0 = owing j below some in
          let apart : key_with key r next due owed j ≡ key_with key r next due owed i → ⊥ = g.lowest j l work in
          let least : key_with key r next due owed i ≤ key_with key r next due owed j = g.earliest j below work in
          omega (arith, task-key i g.row, task-key j below)

      under : (j : ℕ) → i < j → j < length (part 0 n owed) → 0 < get_or (part 0 n owed) j 0
          → key (live_at (task_rows r) (part 0 n next) (part 0 n due) (part 0 n owed) i) ≤ key (live_at (task_rows r) (part 0 n next) (part 0 n due) (part 0 n owed) j)
      under j l within some =
          let below : j < n = omega (arith, fit-tasks.owes, (task-rows r s).count) in
          let least : key_with key r next due owed i ≤ key_with key r next due owed j = g.earliest j below (owing j below some) in
          omega (arith, task-key i g.row, task-key j below)

      go : (x : ℕ) → get_or owed i 0 ≡ x → seen r (r.clock + 1) next due (less owed i) ≡ given_by (serve_by key) 0 r.clock now.tasks now.handlers
      go zero e = absurd (omega (arith, g.work))
      go (suc x) e =
          let left : get_or owed i 0 - 1 ≡ x = omega arith in
          let tasks : part 0 n (less owed i) ≡ set (part 0 n owed) i x = rw left (front-set n owed i x g.row) in
          let handlers : part n m (less owed i) ≡ part n m owed = part-after n m owed i (get_or owed i 0 - 1) g.row in
          let picked : serve_by key now.tasks ≡ live_of (task_rows r) (part 0 n next) (part 0 n due) (set (part 0 n owed) i x) =
          serve-by-flat key (task_rows r) (part 0 n next) (part 0 n due) (part 0 n owed) i x fit-tasks
          (omega (arith, g.row, (task-rows r s).count, fit-tasks.owes))
          (front_at n owed i g.row ∙ e)
          above
          under in
          λ t. record {
            clock = add-one r.clock t;
            tasks = (ap (live_of (task_rows r) (part 0 n next) (part 0 n due)) tasks ∙ sym picked) t;
            handlers = live_of (handler_rows r) (part n m next) (part n m next) (handlers t);
          }

  to-nobody : ToNobody owed n m → After Idle
  to-nobody g =
      rw (none-owed g.no-handler)
      (let picked : serve_by key now.tasks ≡ now.tasks =
      serve-by-idle key now.tasks
      (idle-flat (task_rows r) (part 0 n next) (part 0 n due) (part 0 n owed)
      (λ j l.
      let below : j < n = omega (arith, fit-tasks.owes, (task-rows r s).count) in
      front_at n owed j below ∙ g.no-task j below)) in
      λ t. record { clock = add-one r.clock t; tasks = sym picked t; handlers = now.handlers })

  -- Whoever runs.
  pub goes-view : (ran : Ran) → GoesTo (key_with key r next due owed) owed n m ran → After ran
  unfolding GoesTo
  goes-view (Handler i) g = to-handler i g
  goes-view (Task i) g = to-task i g
  goes-view Idle g = to-nobody g
