-- The search from one deadline to the next: what has passed so far, and what the first length that fails says.
use mathlib.Core.Bool.{Bool, true, false}
use mathlib.Core.List.{List}
use mathlib.Core.Logic.{◌⊎◌, inl, inr}
use mathlib.Core.Path.{◌≡◌, refl, ap, sym, ◌∙◌}
use native.Mathlib.Omega.{arith}
use Prim.Native.Nat.{ℕ, zero, suc, ◌+◌, ◌-◌, ◌^◌, ◌≤◌, ◌<◌, min}
use lib.ListN.{length, take, drop, length-drop}
use lib.Seq.{take_all}
use Rattle.walk.specs.Queue.{head, to_come, CanTake, Taken}
use Rattle.walk.proofs.Queue.{ahead-head, come-none, come-before}
use Rattle.walk.proofs.Taking.{come-some}
use Rattle.demand.specs.Demands.{called, handled, left, due, Passes}
use Rattle.demand.specs.Inside.Arrivals.{outset, Level, Come}
use Rattle.demand.specs.Inside.Events.{Placeable, Begun}
use Rattle.demand.specs.Inside.Sizes.{Small}
use Rattle.demand.specs.Limits.{tasks_most, handlers_most, ticks_most}
use Rattle.demand.specs.Refusals.{InRange, table_refusal}
use Rattle.demand.specs.Rows.{Row, tasks_of, handlers_of}
use Rattle.demand.specs.Tests.{pick}
use Rattle.demand.specs.declared.arrivals.Progress.{Progress}
use Rattle.demand.specs.declared.events.Event.{Event}
use Rattle.demand.specs.declared.events.Event.TheVariants.{Arrival, Deadline}
use Rattle.demand.proofs.Between.{passes-flat}
use Rattle.demand.proofs.Demands.{passes-zero, handled-le}
use Rattle.demand.proofs.Divide.{le-or-lt}
use Rattle.demand.proofs.Inside.Arrivals.{outset-follows, follows-handled}
use Rattle.demand.proofs.Inside.Events.{work-due, handlers-placeable}
use Rattle.demand.proofs.Inside.Sizes.{fair-positive, due-most, called-most}
use Rattle.demand.proofs.Refusals.{refusal-in-range}
use Rattle.verdict.specs.Facts.{PassesTo}
use Rattle.verdict.specs.Idle.{Idle}
use Rattle.verdict.specs.Inside.Search.{FoundAt, FoundSays, Searched}
use Rattle.verdict.specs.Tested.{tested}
use Rattle.verdict.specs.declared.search.Found.TheVariants.{Nothing}
use Rattle.verdict.proofs.Idle.{idle-unique}
use Rattle.verdict.proofs.Tested.{tested-zero, tested-flat, tested-due, tested-le-end}
use Rattle.walk.specs.declared.Entry.{Entry}

-- The idle point is looked for within the limit.
pub sight-most : (looks : Bool) (n s : ℕ) → n ≤ ticks_most → s ≡ pick looks n 0 → s ≤ ticks_most
sight-most true n s fits e = omega arith
sight-most false n s fits e = omega arith

-- Nothing is below the first tick,
pub sight-none : (looks : Bool) (s : ℕ) → pick looks 0 0 ≤ s
sight-none true s = omega arith
sight-none false s = omega arith

-- and where one looks as far as n, n or more is asked for.
pub sight-low : (looks : Bool) (n seen s : ℕ) → seen ≡ pick looks n 0 → seen ≤ s → pick looks n 0 ≤ s
sight-low looks n seen s e far = omega (arith, e, far)

-- Before the first tick nothing has been asked.
pub searched-start : (ts hs : List Row) (t h : List Entry) (p : Progress) → InRange ts hs → Begun Deadline ts t → Begun Arrival hs h → p ≡ outset
    → Searched ts hs t h p 0 0
searched-start ts hs t h p range deadlines arrivals e =
    rw e (record {
      some = deadlines.some range.some-task;
      tasks = deadlines.queue;
      handlers = arrivals.queue;
      tasks-ahead = deadlines.ahead;
      handlers-ahead = arrivals.ahead;
      low = omega arith;
      follows = outset-follows hs h arrivals (fair-positive hs range.handlers);
      dues = λ x m. omega (arith, deadlines.work x, work-due ts x (fair-positive ts range.tasks));
      passed = λ l from within. absurd (omega arith);
      count = sym (tested-zero ts);
    })

module _ (ts hs : List Row) (range : InRange ts hs) (t h : List Entry) (p : Progress) (d k : ℕ) (so_far : Searched ts hs t h p d k) where
  pub next-above : p.at < (head t).next
  next-above = ahead-head t p.at so_far.some so_far.tasks-ahead

  passes-here : Passes ts hs p.at
  passes-here = go p.at so_far.passed
    where
      go : (l : ℕ) → PassesTo ts hs l → Passes ts hs l
      go zero passed = passes-zero ts hs range.deadlines
      go (suc l) passed = passed (suc l) (omega arith) (omega arith)

  -- D stays up to the next deadline,
  still : (x : ℕ) → p.at ≤ x → x < (head t).next → due ts (p.at + (x - p.at)) ≡ due ts p.at
  still x from m =
      let e : p.at + (x - p.at) ≡ x = omega arith in
      rw e
      (omega (
        arith,
        so_far.dues x from,
        so_far.dues p.at (omega arith),
        come-before t x so_far.tasks m,
        come-none p.at t so_far.tasks-ahead,
      ))

  -- so every length before it passes
  before-next : (x : ℕ) → 1 ≤ x → x < (head t).next → Passes ts hs x
  before-next x from m = go (le-or-lt x p.at)
    where
      go : (x ≤ p.at) ⊎ (p.at < x) → Passes ts hs x
      go (inl seen) = so_far.passed x from seen
      go (inr new) =
          let e : p.at + (x - p.at) ≡ x = omega arith in
          rw e at (passes-flat ts hs p.at (x - p.at) (still x (omega arith) m) passes-here)

  -- and is no test length.
  count-before : (x : ℕ) → p.at ≤ x → x < (head t).next → k ≡ tested ts x
  count-before x from m =
      let e : p.at + (x - p.at) ≡ x = omega arith in
      so_far.count ∙ sym (rw e at (tested-flat ts range.tasks range.deadlines p.at (x - p.at) (still x from m)))

  -- No more lengths are tested than there are.
  pub count_most : k ≤ p.at
  count_most = omega (arith, so_far.count, tested-le-end ts p.at)

  -- No deadline is left up to end: all has passed. Where the idle point is looked for, it is not before the last deadline.
  pub passes-out : (looks : Bool) (w end : ℕ) → p.at ≤ end → end < (head t).next → pick looks p.at 0 ≤ w → ((z : ℕ) → Idle ts hs z → w ≤ z)
      → FoundSays ts hs end looks (Nothing k)
  unfolding FoundSays
  passes-out false w end reached m low above = λ z point. record {
    passes = λ x from within. before-next x from (omega (arith, within));
    count = count-before end reached m;
  }
  passes-out true w end reached m low above =
      λ z point.
      let later : w ≤ z = above z (point refl) in
      record {
        passes = λ x from within. before-next x from (omega (arith, within));
        count = count-before (min z end) (omega (arith, later)) (omega arith);
      }

  -- All has drained before the next deadline: no length up to the idle point fails.
  pub passes-drained : (looks : Bool) (s w end n : ℕ) → n ≡ pick looks (head t).next 0 → p.at ≤ end → pick looks p.at 0 ≤ s → s ≤ w → w < n
      → (w < n → Idle ts hs w) → FoundSays ts hs end looks (Nothing k)
  unfolding FoundSays
  passes-drained false s w end n e reached low up below idle = absurd (omega arith)
  passes-drained true s w end n e reached low up below idle =
      λ z point.
      let same : z ≡ w = idle-unique ts hs z w (point refl) (idle below) in
      record {
        passes = λ x from within. before-next x from (omega (arith, same, within));
        count = count-before (min z end) (omega (arith, same)) (omega (arith, same));
      }

  module _ (n : ℕ) (here : n ≡ (head t).next) (fits : n ≤ ticks_most) where
    pub search-level : Level h p n
    search-level =
        let small : Small hs n = record { rows = range.handlers; count = omega (arith, range.handlers-most); ticks = fits } in
        record {
          queue = so_far.handlers;
          ahead = so_far.handlers-ahead;
          low = so_far.low;
          before = omega (arith, next-above);
          ticks = fits;
          fits = omega (arith, so_far.follows.work n (omega (arith, next-above)), called-most hs n small);
        }

    due-here : d + to_come t n ≡ due ts n
    due-here = sym (so_far.dues n (omega (arith, next-above)))

    small-here : Small ts n
    small-here = record { rows = range.tasks; count = range.tasks-most; ticks = fits }

    pub search-can : CanTake t d
    search-can = record {
      queue = so_far.tasks;
      some = so_far.some;
      early = omega arith;
      fits = omega (arith, due-here, ap (to_come t) here, due-most ts n small-here);
    }

    module _ (h' : List Entry) (w : Progress) (come : Come h p n h' w) (t' : List Entry) (e : ℕ) (took : Taken (head t).next t d t' e) where
      search-handled : w.taken ≡ handled hs n
      search-handled = follows-handled hs h' w (come.follows (called hs) so_far.follows) ∙ ap (handled hs) come.at

      search-due : e ≡ due ts n
      search-due =
          let later = come-none n t' (rw here took.ahead) in
          omega (arith, due-here, took.same n (omega arith), later)

      -- What is called for and not taken is left over.
      search-left : w.called - w.taken ≡ left hs n
      unfolding left
      search-left =
          let called : w.called ≡ called hs n = omega (arith, come.called, so_far.follows.work n (omega (arith, next-above))) in
          omega (arith, called, search-handled)

      -- The deadline is a test length, the next one.
      search-count : k + 1 ≡ tested ts n
      search-count =
          let last : ℕ = n - 1 in
          let next-is : suc last ≡ n = omega (arith, next-above) in
          let before : k ≡ tested ts last = count-before last (omega (arith, next-above)) (omega (arith, next-above)) in
          let flat : due ts last ≡ d =
          omega (arith, so_far.dues last (omega (arith, next-above)), come-before t last so_far.tasks (omega (arith, next-above))) in
          let some : 1 ≤ to_come t n = rw here (come-some t so_far.tasks so_far.some) in
          let more : due ts last < due ts (suc last) = rw next-is (omega (arith, flat, due-here, some)) in
          omega (arith, before, rw next-is at (tested-due ts range.tasks range.deadlines last more))

      pub search-fits : w.taken + e < 2 ^ 64
      search-fits = omega (arith, search-handled, search-due, handled-le hs n, due-most ts n small-here)

      -- The first deadline at which a length fails is the shortest length that does.
      pub search-found : (end : ℕ) → n ≤ end → n < w.taken + e → FoundAt ts hs end (record { interval = n; handler = w.taken; task = e; left = w.called - w.taken; tested = k + 1 })
      search-found end within fails = record {
        shortest = record {
          positive = omega (arith, next-above);
          fails = omega (arith, search-handled, search-due);
          least = λ x from m. before-next x from (omega arith);
        };
        within = within;
        exact = λ i. record { interval = n; handler = search-handled i; task = search-due i; left = search-left i; tested = search-count i };
      }

      pub search-on : w.taken + e ≤ n → Searched ts hs t' h' w e (k + 1)
      search-on passes = record {
        some = omega (arith, took.long, so_far.some);
        tasks = took.queue;
        handlers = come.queue;
        tasks-ahead = rw (come.at, here) took.ahead;
        handlers-ahead = rw come.at come.ahead;
        low = come.low;
        follows = come.follows (called hs) so_far.follows;
        dues = λ x m. omega (arith, so_far.dues x (omega (arith, next-above, m, come.at)), took.same x (omega (arith, m, come.at)));
        passed = λ x from within. go x from (le-or-lt n x) (omega (arith, within, come.at));
        count = search-count ∙ ap (tested ts) (sym come.at);
      }
        where
          go : (x : ℕ) → 1 ≤ x → (n ≤ x) ⊎ (x < n) → x ≤ n → Passes ts hs x
          go x from (inl last) within = let same : x ≡ n = omega arith in rw same (omega (arith, search-handled, search-due))
          go x from (inr less) within = before-next x from (omega arith)

-- ---- room for the events of a table

module _ (t h : List ℕ) (e : table_refusal t h ≡ 0) where
  pub tasks-room : Placeable (tasks_of t) tasks_most
  tasks-room = let range = refusal-in-range t h e in record {
    rows = range.tasks;
    deadlines = range.deadlines;
    count = range.tasks-most;
    room = range.tasks-most;
  }

  pub handlers-room : Placeable (handlers_of h) handlers_most
  handlers-room = let range = refusal-in-range t h e in handlers-placeable h handlers_most range.handlers range.handlers-most (omega arith)

-- The last places of a room of n, as the code lends them.
pub lent-begun : (event : Event) (rs : List Row) (n k : ℕ) (q : List Entry) → length q ≡ n → Begun event rs (drop k q)
    → Begun event rs (take (n - k) (drop k q))
lent-begun event rs n k q long begun = rw (take_all (n - k) (drop k q) (omega (arith, length-drop k q))) begun
