-- f along the arrivals of handlers (01, "The two demands").
--   outset           == how far handlers have come before the first tick
--   waited p m       == how far from p, at tick m, where nothing arrives up to m
--   Follows a q p    a x is the work called for by tick x: p stands at f of it, and beyond p it goes on as the events of q
--   Level q p m      from p, with the events q to come, one may go on to tick m
--   Come q p m r w   from p and the events q one has come to tick m: to w and the events r
use Rattle.std.specs.Prelude.{List, ◌≡◌, ℕ, ◌+◌, ◌-◌, ◌≤◌, ◌<◌, min, length}
use Rattle.walk.specs.Queue.{to_come, Ahead, Queue}
use Rattle.walk.specs.declared.Entry.{Entry}
use Rattle.demand.specs.Demands.{taken}
use Rattle.demand.specs.Inside.Sizes.{due_most}
use Rattle.demand.specs.Limits.{ticks_most}
use Rattle.demand.specs.declared.arrivals.Progress.{Progress}

abbrev pub outset : Progress
outset = record { at = 0; taken = 0; called = 0 }

abbrev pub waited : Progress → ℕ → Progress
waited p m = record { at = m; taken = min (p.taken + (m - p.at)) p.called; called = p.called }

pub record Follows (a : ℕ → ℕ) (q : List Entry) (p : Progress) : Type 0 where
  pub work : (x : ℕ) → p.at < x → a x ≡ p.called + to_come q x
  pub taken : p.taken ≡ taken a p.at

pub record Level (q : List Entry) (p : Progress) (m : ℕ) : Type 0 where
  pub queue : Queue q
  pub ahead : Ahead p.at q
  pub low : p.taken ≤ p.called
  pub before : p.at ≤ m
  pub ticks : m ≤ ticks_most
  pub fits : p.called + to_come q m ≤ due_most

pub record Come (q : List Entry) (p : Progress) (m : ℕ) (r : List Entry) (w : Progress) : Type 0 where
  pub at : w.at ≡ m
  pub queue : Queue r
  pub ahead : Ahead m r
  pub low : w.taken ≤ w.called
  pub called : w.called ≡ p.called + to_come q m
  pub long : length r ≡ length q
  pub follows : (a : ℕ → ℕ) → Follows a q p → Follows a r w
