-- The idle point looked for along all arrivals: what stays true from climb to climb, and where it is found.
use mathlib.Core.List.{List}
use mathlib.Core.Logic.{◌⊎◌, inl, inr}
use mathlib.Core.Path.{◌≡◌, refl, ◌∙◌}
use native.Mathlib.Omega.{arith}
use Prim.Native.Nat.{ℕ, ◌+◌, ◌≤◌, ◌<◌}
use lib.ListN.{length}
use Rattle.walk.specs.Queue.{CanTakeTo, Taken}
use Rattle.walk.proofs.Queue.{come-none, come-mono}
use Rattle.demand.specs.Inside.Events.{Begun}
use Rattle.demand.specs.Inside.Sizes.{due_most, Small}
use Rattle.demand.specs.Limits.{ticks_most}
use Rattle.demand.specs.Refusals.{InRange}
use Rattle.demand.specs.Rows.{Row}
use Rattle.demand.specs.declared.events.Event.TheVariants.{Arrival}
use Rattle.demand.proofs.Divide.{le-or-lt}
use Rattle.demand.proofs.Inside.Events.{work-called}
use Rattle.demand.proofs.Inside.Sizes.{fair-positive, called-most}
use Rattle.verdict.specs.Idle.{asks, Idle}
use Rattle.verdict.specs.Inside.Drain.{both_come, CanTakeBoth, TakenBoth, Asked, CanClimb, Climbed, Looking}
use Rattle.verdict.proofs.Idle.{asks-called, asks-some}
use Rattle.walk.specs.declared.Entry.{Entry}

-- ---- two queues

module _ (n : ℕ) (a b : List Entry) (sum : ℕ) (can : CanTakeBoth n a b sum) where
  pub tasks-can : CanTakeTo n a sum
  tasks-can = record { queue = can.tasks; early = can.early; fits = omega (arith, can.fits) }

  module _ (c : List Entry) (s : ℕ) (first : Taken n a sum c s) where
    pub handlers-can : CanTakeTo n b s
    handlers-can = record { queue = can.handlers; early = can.early; fits = omega (arith, can.fits, first.same n (omega arith)) }

    pub taken-both : (d : List Entry) (w : ℕ) → Taken n b s d w → TakenBoth n a b sum c d w
    taken-both d w last = record {
      same = λ x from. omega (arith, first.same x from, last.same x from);
      all = omega (arith, come-none n c first.ahead, come-none n d last.ahead);
      tasks = first.queue;
      handlers = last.queue;
      tasks-long = first.long;
      handlers-long = last.long;
    }

-- ---- from climb to climb

-- What is asked for by tick s is w: no tick below w has drained.
asked-turn : (f : ℕ → ℕ) (a b : List Entry) (s : ℕ) (c d : List Entry) (w : ℕ) → s ≤ ticks_most → TakenBoth s a b s c d w → Asked f a b s → Asked f c d w
asked-turn f a b s c d w soon took asked = record {
  at = s;
  some = omega (arith, asked.some, asked.met);
  met = omega (arith, took.same s (omega arith), took.all);
  early = soon;
  work = work;
  busy = λ x from below. go x from below (le-or-lt s x);
}
  where
    work : (x : ℕ) → s ≤ x → f x ≡ w + both_come c d x
    work x from = asked.work x (omega (arith, asked.met)) ∙ took.same x from

    go : (x : ℕ) → 1 ≤ x → x < w → (s ≤ x) ⊎ (x < s) → x < f x
    go x from below (inl past) = omega (arith, work x past)
    go x from below (inr before) = asked.busy x from before

pub record Climbing (a b : List Entry) (s n : ℕ) (c d : List Entry) (w : ℕ) : Type 0 where
  pub can : CanClimb c d w n
  pub tasks-long : length c ≡ length a
  pub handlers-long : length d ≡ length b
  pub up : s ≤ w
  pub asked : (f : ℕ → ℕ) → Asked f a b s → Asked f c d w

module _ (a b : List Entry) (s n : ℕ) where
  pub climb-start : CanClimb a b s n → Climbing a b s n a b s
  climb-start can = record { can = can; tasks-long = refl; handlers-long = refl; up = omega arith; asked = λ f asked. asked }

  module _ (c d : List Entry) (w : ℕ) (so_far : Climbing a b s n c d w) where
    -- Up to n, or where no tick from there on is left to look at.
    pub climb-far : n ≤ w → Climbed a b s n c d w
    climb-far far = record {
      tasks = so_far.can.tasks;
      handlers = so_far.can.handlers;
      tasks-long = so_far.tasks-long;
      handlers-long = so_far.handlers-long;
      up = so_far.up;
      asked = so_far.asked;
      all = λ f asked below. absurd (omega arith);
    }

    module _ (below : w < n) where
      soon : w ≤ ticks_most
      soon = omega (arith, so_far.can.ticks)

      pub climb-can : CanTakeBoth w c d w
      climb-can =
          let can = so_far.can in
          let tasks = come-mono c {x = w} {y = ticks_most} can.tasks.fair soon in
          let handlers = come-mono d {x = w} {y = ticks_most} can.handlers.fair soon in
          record { tasks = can.tasks; handlers = can.handlers; early = omega (arith, soon); fits = omega (arith, tasks, handlers, can.fits) }

      module _ (p q : List Entry) (v : ℕ) (took : TakenBoth w c d w p q v) where
        -- More is asked for, or all has drained.
        pub climb-up : w ≤ v
        climb-up = omega (arith, took.same w (omega arith), took.all)

        pub climb-turn : Climbing a b s n p q v
        climb-turn = record {
          can = record {
            tasks = took.tasks;
            handlers = took.handlers;
            ticks = so_far.can.ticks;
            fits = omega (arith, took.same ticks_most soon, so_far.can.fits);
          };
          tasks-long = took.tasks-long ∙ so_far.tasks-long;
          handlers-long = took.handlers-long ∙ so_far.handlers-long;
          up = omega (arith, so_far.up, climb-up);
          asked = λ f asked. asked-turn f c d w p q v soon took (so_far.asked f asked);
        }

        pub climb-drained : v ≡ w → Climbed a b s n p q w
        climb-drained same =
            let on = climb-turn in
            record {
              tasks = took.tasks;
              handlers = took.handlers;
              tasks-long = on.tasks-long;
              handlers-long = on.handlers-long;
              up = so_far.up;
              asked = λ f asked. rw same at (on.asked f asked);
              all = λ f asked less. let before = so_far.asked f asked in
                  omega (arith, same, before.work w before.met, took.same w (omega arith), took.all);
            }

-- ---- a table's own arrivals

module _ (ts hs : List Row) (range : InRange ts hs) where
  pub asks-most : (x : ℕ) → x ≤ ticks_most → asks ts hs x ≤ due_most + due_most
  asks-most x ticks =
      let tasks : Small ts x = record { rows = range.tasks; count = range.tasks-most; ticks = ticks } in
      let handlers : Small hs x = record { rows = range.handlers; count = omega (arith, range.handlers-most); ticks = ticks } in
      omega (arith, asks-called ts hs x, called-most ts x tasks, called-most hs x handlers)

  module _ (a b : List Entry) (tasks : Begun Arrival ts a) (handlers : Begun Arrival hs b) where
    begun-work : (x : ℕ) → both_come a b x ≡ asks ts hs x
    begun-work x =
        let own = work-called ts x (fair-positive ts range.tasks) in
        let other = work-called hs x (fair-positive hs range.handlers) in
        omega (arith, tasks.work x, handlers.work x, own, other, asks-called ts hs x)

    pub first-can : CanTakeBoth 1 a b 0
    first-can = record {
      tasks = tasks.queue;
      handlers = handlers.queue;
      early = omega arith;
      fits = omega (arith, begun-work 1, asks-most 1 (omega arith));
    }

    -- By the first tick every row asks for its cost.
    pub look-start : (c d : List Entry) (s : ℕ) → TakenBoth 1 a b 0 c d s → Looking ts hs c d s
    look-start c d s took = record {
      tasks = took.tasks;
      handlers = took.handlers;
      asked = record {
        at = 1;
        some = omega arith;
        met = omega (arith, work 1 (omega arith), took.all, asks-some ts hs range);
        early = omega arith;
        work = work;
        busy = λ x from below. omega (arith, below, work x from);
      };
    }
      where
        work : (x : ℕ) → 1 ≤ x → asks ts hs x ≡ s + both_come c d x
        work x from = omega (arith, begun-work x, took.same x from)

  -- The idle point is not below what is asked for so far.
  pub look-above : (a b : List Entry) (s z : ℕ) → Looking ts hs a b s → Idle ts hs z → s ≤ z
  look-above a b s z so_far idle = go (le-or-lt s z)
    where
      go : (s ≤ z) ⊎ (z < s) → s ≤ z
      go (inl h) = h
      go (inr h) = absurd (omega (arith, so_far.asked.busy z idle.positive h, idle.room))

  module _ (a b : List Entry) (s : ℕ) (so_far : Looking ts hs a b s) (n : ℕ) where
    pub look-can : n ≤ ticks_most → CanClimb a b s n
    look-can ticks =
        let asked = so_far.asked in
        record {
          tasks = so_far.tasks;
          handlers = so_far.handlers;
          ticks = ticks;
          fits = omega (arith, asked.work ticks_most asked.early, asks-most ticks_most (omega arith));
        }

    module _ (c d : List Entry) (w : ℕ) (climbed : Climbed a b s n c d w) where
      pub look-on : Looking ts hs c d w
      look-on = record {
        tasks = climbed.tasks;
        handlers = climbed.handlers;
        asked = climbed.asked (asks ts hs) so_far.asked;
      }

      -- All that is asked for by tick w is w: it is the idle point.
      pub look-idle : w < n → Idle ts hs w
      look-idle below =
          let asked = look-on.asked in
          record {
            positive = omega (arith, asked.some, asked.met);
            room = climbed.all (asks ts hs) so_far.asked below;
            least = asked.busy;
          }
