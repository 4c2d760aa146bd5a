-- The idle point looked for along the arrivals of tasks and of handlers (02, M-105). No promise cites it: specs/Idle states the idle point.
--   both_come a b x      == the work of the arrivals of a and b up to tick x
--   CanTakeBoth n a b sum, TakenBoth n a b sum c d s   as CanTakeTo and Taken of walk, of two queues
--   Asked f a b s       f x is the work asked for by tick x: s of it by a tick not above s, beyond as a and b have it to come; no tick
--                       below s has drained
--   CanClimb a b s n, Climbed a b s n c d w   from s, asked for so far, one may climb to n and has come to w: the idle point, if below n
--   Looking ts hs a b s a search has come so far with the arrivals a and b to come and s asked for
use Rattle.std.specs.Prelude.{List, ◌≡◌, ℕ, ◌+◌, ◌^◌, ◌≤◌, ◌<◌, length}
use Rattle.walk.specs.Queue.{to_come, Queue}
use Rattle.demand.specs.Limits.{ticks_most}
use Rattle.demand.specs.Rows.{Row}
use Rattle.verdict.specs.Idle.{asks}
use Rattle.walk.specs.declared.Entry.{Entry}

abbrev pub both_come : List Entry → List Entry → ℕ → ℕ
both_come a b x = to_come a x + to_come b x

pub record CanTakeBoth (n : ℕ) (a b : List Entry) (sum : ℕ) : Type 0 where
  pub tasks : Queue a
  pub handlers : Queue b
  pub early : n < 2 ^ 63
  pub fits : sum + both_come a b n < 2 ^ 64

pub record TakenBoth (n : ℕ) (a b : List Entry) (sum : ℕ) (c d : List Entry) (s : ℕ) : Type 0 where
  pub same : (x : ℕ) → n ≤ x → sum + both_come a b x ≡ s + both_come c d x
  pub all : both_come c d n ≡ 0
  pub tasks : Queue c
  pub handlers : Queue d
  pub tasks-long : length c ≡ length a
  pub handlers-long : length d ≡ length b

pub record Asked (f : ℕ → ℕ) (a b : List Entry) (s : ℕ) : Type 0 where
  pub at : ℕ
  pub some : 1 ≤ at
  pub met : at ≤ s
  pub early : at ≤ ticks_most
  pub work : (x : ℕ) → at ≤ x → f x ≡ s + both_come a b x
  pub busy : (x : ℕ) → 1 ≤ x → x < s → x < f x

pub record CanClimb (a b : List Entry) (s n : ℕ) : Type 0 where
  pub tasks : Queue a
  pub handlers : Queue b
  pub ticks : n ≤ ticks_most
  pub fits : s + both_come a b ticks_most < 2 ^ 64

pub record Climbed (a b : List Entry) (s n : ℕ) (c d : List Entry) (w : ℕ) : Type 0 where
  pub tasks : Queue c
  pub handlers : Queue d
  pub tasks-long : length c ≡ length a
  pub handlers-long : length d ≡ length b
  pub up : s ≤ w
  pub asked : (f : ℕ → ℕ) → Asked f a b s → Asked f c d w
  pub all : (f : ℕ → ℕ) → Asked f a b s → w < n → f w ≤ w

pub record Looking (ts hs : List Row) (a b : List Entry) (s : ℕ) : Type 0 where
  pub tasks : Queue a
  pub handlers : Queue b
  pub asked : Asked (asks ts hs) a b s
