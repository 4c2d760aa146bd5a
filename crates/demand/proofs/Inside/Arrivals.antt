-- f from one arrival to the next: between two of them the work called for is the sum carried.
use mathlib.Core.List.{List}
use mathlib.Core.Path.{◌≡◌, refl, ap, sym, ◌∙◌}
use native.Mathlib.Omega.{arith}
use Prim.Native.Nat.{ℕ, suc, ◌+◌, ◌-◌, ◌≤◌, ◌<◌}
use lib.ListN.{length, take, drop, length-drop}
use lib.Seq.{take_all}
use Rattle.walk.specs.Queue.{head, to_come, Ahead, CanTake, Taken}
use Rattle.walk.specs.declared.Entry.{Entry}
use Rattle.walk.proofs.Queue.{entries-map, head-ahead, ahead-head, come-none, come-mono}
use Rattle.demand.specs.Demands.{called, taken, handled}
use Rattle.demand.specs.Inside.Arrivals.{outset, waited, Follows, Level, Come}
use Rattle.demand.specs.Inside.Events.{Begun}
use Rattle.demand.specs.Inside.Sizes.{Small}
use Rattle.demand.specs.Rows.{Row, Positive}
use Rattle.demand.specs.declared.arrivals.Progress.{Progress}
use Rattle.demand.specs.declared.events.Event.TheVariants.{Arrival}
use Rattle.demand.proofs.Demands.{handled-taken}
use Rattle.demand.proofs.Inside.Events.{work-called, work-most}
use Rattle.demand.proofs.Inside.Sizes.{fair-positive}
use Rattle.demand.proofs.Taken.{taken-zero, taken-jump}

-- Up to a tick before which no work arrives, f grows by a tick for each until all that was called for is taken.
follows_on : (a : ℕ → ℕ) (q : List Entry) (p : Progress) (n : ℕ) → Follows a q p → p.taken ≤ p.called → p.at ≤ n → Ahead n q
    → taken a n ≡ (waited p n).taken
follows_on a q p n w low h ahead =
    let stays : (l : ℕ) → l < n - p.at → a (p.at + suc l) ≡ p.called =
    λ l m. omega (arith, w.work (p.at + suc l) (omega arith), come-none (p.at + suc l) q (entries-map (λ e b. omega (arith, b)) q ahead)) in
    let e : p.at + (n - p.at) ≡ n = omega arith in
    omega (arith, ap (taken a) e, taken-jump a p.at p.called (n - p.at) stays, w.taken)

module _ (q : List Entry) (p : Progress) (m : ℕ) (l : Level q p m) where
  -- No arrival up to m is left.
  pub come-waited : (w : Progress) → Ahead m q → w ≡ waited p m → Come q p m q w
  come-waited w ahead e = rw e (record {
    at = refl;
    queue = l.queue;
    ahead = ahead;
    low = omega arith;
    called = omega (arith, come-none m q ahead);
    long = refl;
    follows = λ a f. record {
      work = λ x h. f.work x (omega (arith, l.before));
      taken = sym (follows_on a q p m f l.low l.before ahead);
    };
  })

  -- The arrivals of the first tick.
  module _ (some : 1 ≤ length q) (here : (head q).next ≤ m) where
    pub come-least : p.at < (head q).next
    come-least = ahead-head q p.at some l.ahead

    pub come-can : CanTake q p.called
    come-can = record {
      queue = l.queue;
      some = some;
      early = omega (arith, l.ticks);
      fits = omega (arith, come-mono q {x = (head q).next} {y = m} l.queue.fair here, l.fits);
    }

    module _ (t : List Entry) (s : ℕ) (took : Taken (head q).next q p.called t s) where
      grown : s ≡ p.called + to_come q (head q).next
      grown = omega (arith, took.same (head q).next (omega arith), come-none (head q).next t took.ahead)

      abbrev there : Progress
      there = record { at = (head q).next - 1; taken = (waited p ((head q).next - 1)).taken; called = s }

      pub come-level : Level t there m
      come-level = record {
        queue = took.queue;
        ahead = entries-map (λ e h. omega (arith, h, come-least)) t took.ahead;
        low = omega (arith, grown);
        before = omega arith;
        ticks = l.ticks;
        fits = omega (arith, took.same m here, l.fits);
      }

      pub come-follows : (a : ℕ → ℕ) → Follows a q p → Follows a t there
      come-follows a f = record {
        work = λ x h. omega (arith, f.work x (omega (arith, come-least)), took.same x (omega (arith, come-least)));
        taken = sym (follows_on a q p ((head q).next - 1) f l.low (omega (arith, come-least)) (head-ahead q ((head q).next - 1) l.queue (omega (arith, come-least))));
      }

      pub come-later : (head q).next < (head t).next
      come-later = ahead-head t (head q).next (omega (arith, took.long)) took.ahead

-- A walk that has come to w and then waits.
pub come-over : (q : List Entry) (p : Progress) (r : List Entry) (w : Progress) (m : ℕ) (v : Progress) → Level r w m → length r ≡ length q
    → w.called + to_come r m ≡ p.called + to_come q m → ((a : ℕ → ℕ) → Follows a q p → Follows a r w) → Ahead m r → v ≡ waited w m → Come q p m r v
come-over q p r w m v l long same so_far ahead e =
    let rest = come-waited r w m l v ahead e in
    record {
      at = rest.at;
      queue = rest.queue;
      ahead = rest.ahead;
      low = rest.low;
      called = omega (arith, rest.called, same);
      long = long;
      follows = λ a f. rest.follows a (so_far a f);
    }

-- ---- from the first tick on

module _ (hs : List Row) (q : List Entry) (begun : Begun Arrival hs q) where
  pub outset-follows : Positive hs → Follows (called hs) q outset
  outset-follows pos = record {
    work = λ x h. omega (arith, begun.work x, work-called hs x pos);
    taken = sym (taken-zero (called hs));
  }

  pub outset-level : (m : ℕ) → Small hs m → Level q outset m
  outset-level m small = record {
    queue = begun.queue;
    ahead = begun.ahead;
    low = omega arith;
    before = omega arith;
    ticks = small.ticks;
    fits = omega (arith, begun.work m, work-most Arrival hs m small);
  }

-- What has been taken is f.
pub follows-handled : (hs : List Row) (q : List Entry) (p : Progress) → Follows (called hs) q p → p.taken ≡ handled hs p.at
follows-handled hs q p f = f.taken ∙ sym (handled-taken hs p.at)

-- A walk from the first tick to m, by the events in the last places of a room of n.
module _ (hs : List Row) (n k : ℕ) (q : List Entry) (long : length q ≡ n) (begun : Begun Arrival hs (drop k q)) (p : Progress) (first : p ≡ outset)
    (m : ℕ) (small : Small hs m) where
  lent : take (n - k) (drop k q) ≡ drop k q
  lent = take_all (n - k) (drop k q) (omega (arith, length-drop k q))

  pub begun-level : Level (take (n - k) (drop k q)) p m
  begun-level = rw (lent, first) (outset-level hs (drop k q) begun m small)

  pub begun-handled : (r : List Entry) (w : Progress) → Come (take (n - k) (drop k q)) p m r w → w.taken ≡ handled hs m
  begun-handled r w come =
      let start : Follows (called hs) (take (n - k) (drop k q)) p = rw (lent, first) (outset-follows hs (drop k q) begun (fair-positive hs small.rows)) in
      follows-handled hs r w (come.follows (called hs) start) ∙ ap (handled hs) come.at
