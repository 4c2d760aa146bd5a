-- The idle point (02, M-105): the least length from 1 that has room for all the work that is called for within it, of handlers and of
-- tasks, due or not.
--   asks ts hs l     == A(l) and the sum of cost times (l / period rounded up) over tasks
--   Idle ts hs z     z is the idle point
--   NoIdle ts hs     there is none
--   IdleEnds ts hs   if no length up to the idle point fails, none does
--   IdleWhere ts hs  there is one, and it is at most H, where W is at most H; there is none where W is above H; it is H where W is H
use Rattle.std.specs.Prelude.{List, ◌≡◌, ℕ, ◌+◌, ◌≤◌, ◌<◌}
use Rattle.demand.specs.Demands.{called_by, called}
use Rattle.demand.specs.Rows.{Row, total}
use Rattle.verdict.specs.Facts.{PassesTo}
use Rattle.verdict.specs.Loads.{whole}
use Rattle.verdict.specs.Multiples.{common}
use Rattle.verdict.specs.Lengths.{AlwaysPasses}

unfoldable pub asks : List Row → List Row → ℕ → ℕ
asks ts hs l = called hs l + total (called_by l) ts

pub record Idle (ts hs : List Row) (z : ℕ) : Type 0 where
  pub positive : 1 ≤ z
  pub room : asks ts hs z ≤ z
  pub least : (l : ℕ) → 1 ≤ l → l < z → l < asks ts hs l

pub record IdleBy (ts hs : List Row) (end : ℕ) : Type 0 where
  pub point : ℕ
  pub idle : Idle ts hs point
  pub within : point ≤ end

abbrev pub NoIdle : List Row → List Row → Type 0
NoIdle ts hs = (l : ℕ) → 1 ≤ l → l < asks ts hs l

abbrev pub IdleEnds : List Row → List Row → Type 0
IdleEnds ts hs = (z : ℕ) → Idle ts hs z → PassesTo ts hs z → AlwaysPasses ts hs

pub record IdleWhere (ts hs : List Row) : Type 0 where
  pub light : whole ts hs ≤ common ts hs → IdleBy ts hs (common ts hs)
  pub heavy : common ts hs < whole ts hs → NoIdle ts hs
  pub full : whole ts hs ≡ common ts hs → Idle ts hs (common ts hs)
