-- The two outcomes of a piece: accepted up to its end, or broken first where its tests say.
use mathlib.Core.List.{List}
use mathlib.Core.Logic.{◌⊎◌, inl, inr}
use mathlib.Core.Path.{◌≡◌, refl, ap, subst, ◌∙◌}
use native.Mathlib.Nat.{zero-add}
use native.Mathlib.Omega.{arith}
use Prim.Native.Nat.{ℕ, suc, ◌+◌, ◌-◌, ◌*◌, ◌≤◌, ◌<◌, min, max}
use Rattle.demand.specs.Rows.{Row, row_at, Positive, Sound, Valid}
use Rattle.demand.proofs.Divide.{jobs, le-or-lt}
use Rattle.segments.specs.Given.{Who, nobody, task, handler, same, to_task, task_ticks, handler_ticks}
use Rattle.segments.specs.Inside.{due_after, wait_tick, late_clock, lapse_of, waits_of, lates_of, ticks_of}
use Rattle.segments.specs.Rules.{Accepted, Broken, FirstBroken}
use Rattle.segments.proofs.Accepting.{is_handler}
use Rattle.segments.proofs.Pieces.Breaks.{wait-breaks, task-breaks, handler-breaks, rest-breaks, late-behind, run-breaks}
use Rattle.segments.proofs.Timely.Called.{Low, low, work-mono}
use Rattle.segments.proofs.Pieces.Counts.{Steady, task-bit}
use Rattle.segments.proofs.Pieces.OneRow.{due-after}
use Rattle.segments.proofs.Pieces.Piece.{valid-at, WaitsFrom, BusyTo, Clear, piece-accepts, piece-first}
use Rattle.segments.proofs.Pieces.Tests.{lapse-busy, Lapse, lapse-found, waits-low, Wait, waits-found}
use Rattle.segments.proofs.Pieces.Tests.{lates-rest, lates-run, Late, rests, runs, lates-found}

module _ (ts hs : List Row) (vt : Valid ts) (ph : Positive hs) (σ : ℕ → Who) (a : ℕ) where
  abbrev g_t : ℕ → ℕ
  g_t i = task_ticks σ i a

  abbrev g_h : ℕ → ℕ
  g_h j = handler_ticks σ j a

  wait-low : (far x : ℕ) → x ≤ waits_of far a g_h 0 hs → (j : ℕ) → 0 < (row_at hs j).cost → x ≤ max a (wait_tick (row_at hs j) (g_h j))
  wait-low far x l j h =
      let q : waits_of far a g_h 0 hs ≤ max a (wait_tick (row_at hs j) (g_h j)) = rw (zero-add j) at (waits-low far a g_h 0 hs j h) in
      omega (arith, q)

  clear-waits : (far x : ℕ) (w : Who) → x ≤ ticks_of far ts hs g_t g_h a w → WaitsFrom hs g_h w a x
  clear-waits far x nobody l = wait-low far x l
  clear-waits far x (task i) l = wait-low far x (omega arith)
  clear-waits far x (handler j) l = tt

  clear-busy : (far x : ℕ) (w : Who) → x ≤ ticks_of far ts hs g_t g_h a w → BusyTo ts hs g_t g_h w a x
  clear-busy far x nobody l = tt
  clear-busy far x (task i) l = λ t m h. lapse-busy far a (row_at ts i).cost (row_at ts i).period (g_t i) t m (omega arith)
  clear-busy far x (handler j) l = λ t m h. lapse-busy far a (row_at hs j).cost (row_at hs j).period (g_h j) t m (omega arith)

  same-one : (i : ℕ) → same i i ≡ 1
  same-one i = omega arith

  piece-clear : (far x y : ℕ) (w : Who) → x ≤ ticks_of far ts hs g_t g_h a w → y ≤ lates_of far a g_t w 0 ts → Clear ts hs g_t g_h w a x y
  piece-clear far x y w l m =
      record {
        waits = clear-waits far x w l;
        busy = clear-busy far x w l;
        rests = λ i z h.
            (let q : lates_of far a g_t w 0 ts ≤ late_clock (row_at ts i) (g_t i) = rw (zero-add i) at
            (lates-rest far a g_t w 0 ts i (rw (zero-add i) z) h) in omega (arith, q));
        meets = λ i e.
            (let z : to_task w i ≡ 1 = ap (λ (v : Who). to_task v i) e ∙ same-one i in
            rw (zero-add i) at (lates-run far a g_t w 0 ts i (rw (zero-add i) z) y m));
      }

  -- What is found is broken.
  module _ (b L : ℕ) (le : b ≤ L) (acc : Accepted ts hs σ a) where
    wait-broken : (w : Who) → Steady σ w a b → is_handler w ≡ 0 → (far : ℕ) → b ≤ far → waits_of far a g_h 0 hs < b
        → Broken ts hs σ L (waits_of far a g_h 0 hs)
    wait-broken w steady off far f h =
        let q : Wait a g_h 0 hs (waits_of far a g_h 0 hs) = waits-found far a g_h 0 hs (omega arith) in
        let e : waits_of far a g_h 0 hs ≡ max a (wait_tick (row_at hs q.place) (g_h q.place)) = rw (zero-add q.place) at q.is in
        wait-breaks ts hs vt ph σ a b w steady off q.place (waits_of far a g_h 0 hs) L q.some (omega (arith, e)) (omega (arith, e)) h
        (omega arith)

    low-now : Low ts hs σ a
    low-now = low ts hs σ a acc.ticks a (omega arith)

    task-broken : (i : ℕ) → Steady σ (task i) a b → (far : ℕ) → b ≤ far → lapse_of far a (row_at ts i).cost (row_at ts i).period (g_t i) < b
        → Broken ts hs σ L (lapse_of far a (row_at ts i).cost (row_at ts i).period (g_t i))
    task-broken i steady far f h =
        let q : Lapse (row_at ts i).cost (row_at ts i).period (g_t i) a (lapse_of far a (row_at ts i).cost (row_at ts i).period (g_t i)) =
        lapse-found far a (row_at ts i).cost (row_at ts i).period (g_t i)
        (omega (arith, low-now.0 i, work-mono (row_at ts i) {m = a} {n = suc a} (omega arith))) (omega arith) in
        task-breaks ts hs vt ph σ a b i steady (lapse_of far a (row_at ts i).cost (row_at ts i).period (g_t i)) L q.idle q.from h
        (omega arith)

    handler-broken : (i : ℕ) → Steady σ (handler i) a b → (far : ℕ) → b ≤ far
        → lapse_of far a (row_at hs i).cost (row_at hs i).period (g_h i) < b
        → Broken ts hs σ L (lapse_of far a (row_at hs i).cost (row_at hs i).period (g_h i))
    handler-broken i steady far f h =
        let q : Lapse (row_at hs i).cost (row_at hs i).period (g_h i) a (lapse_of far a (row_at hs i).cost (row_at hs i).period (g_h i)) =
        lapse-found far a (row_at hs i).cost (row_at hs i).period (g_h i)
        (omega (arith, low-now.1 i, work-mono (row_at hs i) {m = a} {n = suc a} (omega arith))) (omega arith) in
        handler-breaks ts hs vt ph σ a b i steady (lapse_of far a (row_at hs i).cost (row_at hs i).period (g_h i)) L q.idle q.from h
        (omega arith)

    tick-broken : (w : Who) → Steady σ w a b → (far : ℕ) → b ≤ far → ticks_of far ts hs g_t g_h a w < b
        → Broken ts hs σ L (ticks_of far ts hs g_t g_h a w)
    tick-broken nobody steady far f h = wait-broken nobody steady refl far f h
    tick-broken (handler j) steady far f h = handler-broken j steady far f h
    tick-broken (task i) steady far f h = go (le-or-lt u v)
      where
        u : ℕ
        u = waits_of far a g_h 0 hs

        v : ℕ
        v = lapse_of far a (row_at ts i).cost (row_at ts i).period (g_t i)

        go : (u ≤ v) ⊎ (v < u) → Broken ts hs σ L (min u v)
        go (inl l) = let e : min u v ≡ u = omega arith in rw e (wait-broken (task i) steady refl far f (omega arith))
        go (inr l) = let e : min u v ≡ v = omega arith in rw e (task-broken i steady far f (omega arith))

    late-broken : (w : Who) → Steady σ w a b → (y : ℕ) → y ≤ b → Late a g_t w 0 ts y → Broken ts hs σ L y
    late-broken w steady y h (rests m z some e) =
        let z' : to_task w m ≡ 0 = rw (zero-add m) at z in
        let e' : y ≡ late_clock (row_at ts m) (g_t m) = rw (zero-add m) at e in
        rw e' (rest-breaks ts hs vt ph σ a b w steady m L z' some (omega (arith, late-behind ts hs vt ph σ a b m some acc))
        (omega (arith, e')) le)
    late-broken w steady y h (runs m z l e s) = go (task-bit w m) (valid-at ts vt m)
      where
        D : ℕ
        D = due_after (row_at ts m).deadline (row_at ts m).period a

        z' : to_task w m ≡ 1
        z' = rw (zero-add m) at z

        s' : g_t m + (D - a) < (row_at ts m).cost * suc (jobs a (row_at ts m).deadline (row_at ts m).period)
        s' = rw (zero-add m) at s

        go : (to_task w m ≡ 0) ⊎ ((to_task w m ≡ 1) × (w ≡ task m)) → Sound (row_at ts m) ⊎ ((row_at ts m).cost ≡ 0) → Broken ts hs σ L y
        go (inl q) v = absurd (omega (arith, q, z'))
        go (inr q) (inr c) =
            absurd (let n : g_t m + (D - a) < 0 * suc (jobs a (row_at ts m).deadline (row_at ts m).period) = rw c at s' in omega (arith, n))
        go (inr q) (inl v) =
            rw e
            (run-breaks ts hs vt ph σ a b m L (subst (λ (u : Who). Steady σ u a b) q.1 steady)
            (omega (arith, due-after (row_at ts m).deadline (row_at ts m).period a (omega (arith, v)) v.fits)) (omega (arith, e)) le s')

    -- The two outcomes of a piece.
    pub piece-fine : (w : Who) → Steady σ w a b → a ≤ b → b ≤ ticks_of (suc b) ts hs g_t g_h a w → b < lates_of (suc b) a g_t w 0 ts
        → Accepted ts hs σ b
    piece-fine w steady l x y = piece-accepts ts hs vt ph σ a b w steady l (piece-clear (suc b) b (suc b) w x y) acc

    -- Where some test finds a rule broken, the earlier of the two is the first.
    pub piece-broken : (w : Who) → Steady σ w a b → (ticks_of (suc b) ts hs g_t g_h a w < b) ⊎ (lates_of (suc b) a g_t w 0 ts ≤ b)
        → FirstBroken ts hs σ L (min (ticks_of (suc b) ts hs g_t g_h a w) (lates_of (suc b) a g_t w 0 ts))
    piece-broken w steady some =
        piece-first ts hs vt ph σ a b w steady z L (within some) (piece-clear (suc b) z z w (omega arith) (omega arith)) acc
        (go (le-or-lt y x))
      where
        x : ℕ
        x = ticks_of (suc b) ts hs g_t g_h a w

        y : ℕ
        y = lates_of (suc b) a g_t w 0 ts

        z : ℕ
        z = min x y

        within : (x < b) ⊎ (y ≤ b) → z ≤ b
        within (inl h) = omega arith
        within (inr h) = omega arith

        first-late : y ≤ x → (x < b) ⊎ (y ≤ b) → y ≤ b
        first-late l (inl h) = omega arith
        first-late l (inr h) = h

        first-tick : x < y → (x < b) ⊎ (y ≤ b) → x < b
        first-tick l (inl h) = h
        first-tick l (inr h) = omega arith

        go : (y ≤ x) ⊎ (x < y) → Broken ts hs σ L z
        go (inl l) =
            let e : z ≡ y = omega arith in
            let f : y ≤ b = first-late l some in
            rw e (late-broken w steady y f (lates-found (suc b) a g_t w 0 ts (omega arith)))
        go (inr l) =
            let e : z ≡ x = omega arith in
            rw e (tick-broken w steady (suc b) (omega arith) (first-tick l some))
