-- The ticks that a walk over the segments carries for each row: kept over a gap, one row's count grown over a segment; and only the
-- counts of
-- the table's rows are read.
use mathlib.Core.List.{List, [], ◌∷◌}
use mathlib.Core.Logic.{◌⊎◌, inl, inr}
use mathlib.Core.Path.{◌≡◌, refl, sym, ap, ap₂, ◌∙◌}
use native.Mathlib.Nat.{add-zero, zero-add}
use native.Mathlib.Omega.{arith}
use borrow.Author.Tests.{le-ltb, lt-ltb}
use lib.ListN.{length, get_or, set}
use Prim.Native.Nat.{ℕ, zero, suc, ◌+◌, ◌-◌, ◌≤◌, ◌<◌, min}
use Rattle.demand.specs.Limits.{tasks_most, handlers_most}
use Rattle.demand.specs.Rows.{Row, row_at, no_row}
use Rattle.demand.proofs.Divide.{le-or-lt}
use Rattle.machine.specs.Machine.{share}
use Rattle.segments.specs.Given.{Who, nobody, task, handler, same, to_task, to_handler, task_ticks, handler_ticks}
use Rattle.segments.specs.Inside.{lapse_of, waits_of, lates_of, ticks_of, places_most}
use Rattle.segments.specs.Inside.{who_at, given_at, handler_given, broken_at, piece_broken, Counted}
use Rattle.segments.proofs.Pieces.Counts.{Steady, task-next, handler-next}
use Rattle.segments.proofs.Looks.Scans.{runs-at}

-- ---- the same counts, the same looks

-- Of handlers that wait,
pub waits-same : (far a : ℕ) (g g' : ℕ → ℕ) (j : ℕ) (rs : List Row) → ((m : ℕ) → m < length rs → g (j + m) ≡ g' (j + m))
    → waits_of far a g j rs ≡ waits_of far a g' j rs
unfolding waits_of
waits-same far a g g' j [] e = refl
waits-same far a g g' j (r ∷ rs) e =
    let f : g j ≡ g' j = rw (add-zero j) at (e 0 (omega arith)) in
    rw (f, waits-same far a g g' (suc j) rs (λ m l. (let k : suc j + m ≡ j + suc m = omega arith in rw k (e (suc m) (omega arith)))))

-- and of tasks that are late.
pub lates-same : (far a : ℕ) (g g' : ℕ → ℕ) (w : Who) (j : ℕ) (rs : List Row) → ((m : ℕ) → m < length rs → g (j + m) ≡ g' (j + m))
    → lates_of far a g w j rs ≡ lates_of far a g' w j rs
unfolding lates_of
lates-same far a g g' w j [] e = refl
lates-same far a g g' w j (r ∷ rs) e =
    let f : g j ≡ g' j = rw (add-zero j) at (e 0 (omega arith)) in
    rw (f, lates-same far a g g' w (suc j) rs (λ m l. (let k : suc j + m ≡ j + suc m = omega arith in rw k (e (suc m) (omega arith)))))

-- A row that is not in the table is not owed work, whatever it was given.
none-at : (rs : List Row) (i : ℕ) → length rs ≤ i → row_at rs i ≡ no_row
none-at [] i h = refl
none-at (r ∷ rs) zero h = absurd (omega arith)
none-at (r ∷ rs) (suc i) h = none-at rs i (omega arith)

lapse-same : (far a : ℕ) (g g' : ℕ → ℕ) (rs : List Row) (i : ℕ) → ((m : ℕ) → m < length rs → g m ≡ g' m)
    → lapse_of far a (row_at rs i).cost (row_at rs i).period (g i) ≡ lapse_of far a (row_at rs i).cost (row_at rs i).period (g' i)
lapse-same far a g g' rs i e = go (le-or-lt (length rs) i)
  where
    go : (length rs ≤ i) ⊎ (i < length rs)
        → lapse_of far a (row_at rs i).cost (row_at rs i).period (g i) ≡ lapse_of far a (row_at rs i).cost (row_at rs i).period (g' i)
    go (inl h) = rw (none-at rs i h)
    go (inr h) = rw (e i h)

ticks-same : (far : ℕ) (ts hs : List Row) (g_t g_t' g_h g_h' : ℕ → ℕ) (a : ℕ) (w : Who) → ((m : ℕ) → m < length ts → g_t m ≡ g_t' m)
    → ((m : ℕ) → m < length hs → g_h m ≡ g_h' m) → ticks_of far ts hs g_t g_h a w ≡ ticks_of far ts hs g_t' g_h' a w
ticks-same far ts hs g_t g_t' g_h g_h' a nobody et eh = waits-same far a g_h g_h' 0 hs (λ m l. rw (zero-add m) (eh m l))
ticks-same far ts hs g_t g_t' g_h g_h' a (task i) et eh =
    ap₂ (λ (x y : ℕ). min x y) (waits-same far a g_h g_h' 0 hs (λ m l. rw (zero-add m) (eh m l))) (lapse-same far a g_t g_t' ts i et)
ticks-same far ts hs g_t g_t' g_h g_h' a (handler j) et eh = lapse-same far a g_h g_h' hs j eh

-- So a piece is judged by the counts as by the schedule.
pub piece-same : (ts hs : List Row) (σ : ℕ → Who) (given : List ℕ) (p a b : ℕ) → Counted ts hs σ given a
    → piece_broken ts hs given p a b
    ≡ broken_at (ticks_of (suc b) ts hs (λ i. task_ticks σ i a) (λ j. handler_ticks σ j a) a (who_at p))
    (lates_of (suc b) a (λ i. task_ticks σ i a) (who_at p) 0 ts) b
piece-same ts hs σ given p a b counted =
    ap₂ (λ (x y : ℕ). broken_at x y b)
    (ticks-same (suc b) ts hs (given_at given) (λ i. task_ticks σ i a) (handler_given given) (λ j. handler_ticks σ j a) a (who_at p)
    counted.tasks counted.handlers)
    (lates-same (suc b) a (given_at given) (λ i. task_ticks σ i a) (who_at p) 0 ts (λ m l. rw (zero-add m) (counted.tasks m l)))

-- ---- one row's count grown

-- The counts with d more at place p.
pub grown : (given : List ℕ) (p q d : ℕ) → p < length given
    → get_or (set given p (get_or given p 0 + d)) q 0 ≡ get_or given q 0 + share (same p q) d
grown [] p q d h = absurd (omega arith)
grown (g ∷ given) zero zero d h = refl
grown (g ∷ given) zero (suc q) d h = let apart : same 0 (suc q) ≡ 0 = omega arith in rw apart (sym (add-zero (get_or given q 0)))
grown (g ∷ given) (suc p) zero d h = let apart : same (suc p) 0 ≡ 0 = omega arith in rw apart (sym (add-zero g))
grown (g ∷ given) (suc p) (suc q) d h =
    let shift : same (suc p) (suc q) ≡ same p q = omega arith in
    rw shift (grown given p q d (omega arith))

same-behind : (n k m : ℕ) → same (n + k) (n + m) ≡ same k m
same-behind n k m = omega arith

-- The handler at m runs exactly where its place is that of the row that runs.
hands-at : (p m : ℕ) → m < handlers_most → to_handler (who_at p) m ≡ same p (tasks_most + m)
hands-at p m h = go (le-or-lt tasks_most p) (le-or-lt places_most p)
  where
    go : (tasks_most ≤ p) ⊎ (p < tasks_most) → (places_most ≤ p) ⊎ (p < places_most) → to_handler (who_at p) m ≡ same p (tasks_most + m)
    go (inr l) n = rw (lt-ltb p tasks_most l) (omega arith)
    go (inl l) (inl n) = rw (le-ltb p tasks_most l, le-ltb p places_most n) (omega arith)
    go (inl l) (inr n) =
        let place : tasks_most + (p - tasks_most) ≡ p = omega arith in
        rw (le-ltb p tasks_most l, lt-ltb p places_most n)
        (sym (same-behind tasks_most (p - tasks_most) m) ∙ ap (λ (q : ℕ). same q (tasks_most + m)) place)

share-most : (k d : ℕ) → share k d ≤ d
share-most zero d = omega arith
share-most (suc k) d = omega arith

module _ (ts hs : List Row) (σ : ℕ → Who) (given : List ℕ) (a b : ℕ) (counted : Counted ts hs σ given a) (le : a ≤ b) where
  -- Over a gap nobody's count grows,
  pub counted-gap : Steady σ nobody a b → Counted ts hs σ given b
  counted-gap steady = record {
    tasks = λ m h. counted.tasks m h ∙ (omega (arith, task-next σ nobody a b steady le m));
    handlers = λ m h. counted.handlers m h ∙ (omega (arith, handler-next σ nobody a b steady le m));
    most = λ p. omega (arith, counted.most p);
  }

  -- over a segment that of its row.
  pub counted-segment : (p : ℕ) → p < length given → length ts ≤ tasks_most → length hs ≤ handlers_most → Steady σ (who_at p) a b
      → Counted ts hs σ (set given p (get_or given p 0 + (b - a))) b
  counted-segment p h few-tasks few-handlers steady = record {
    tasks = λ m l.
        (let next : task_ticks σ m b ≡ task_ticks σ m a + share (to_task (who_at p) m) (b - a) = task-next σ (who_at p) a b steady le m in
        let same_place : to_task (who_at p) m ≡ same p m = runs-at p m (omega arith) in
        grown given p m (b - a) h ∙ ap₂ (λ (x k : ℕ). x + share k (b - a)) (counted.tasks m l) (sym same_place) ∙ sym next);
    handlers = λ m l.
        (let next : handler_ticks σ m b ≡ handler_ticks σ m a + share (to_handler (who_at p) m) (b - a) = handler-next σ
        (who_at p) a b steady le m in
        let same_place : to_handler (who_at p) m ≡ same p (tasks_most + m) = hands-at p m (omega arith) in
        grown given p (tasks_most + m) (b - a) h ∙ ap₂ (λ (x k : ℕ). x + share k (b - a)) (counted.handlers m l) (sym same_place)
        ∙ sym next);
    most = λ q. omega (arith, grown given p q (b - a) h, counted.most q, share-most (same p q) (b - a));
  }
