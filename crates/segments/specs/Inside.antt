-- What no promise cites: the tests of a piece, a stretch of ticks that all go to one row or to none, as numbers that code works out. A
-- row was given g ticks before tick a, where the piece starts; far is a tick behind it, told where no rule is broken.
--   cond n u v             == u where n is 0, else v; cond_o of outcomes
--   wait_tick r g           == the tick from which on row r is owed work, if it is given no more
--   late_clock r g          == the deadline of the first job of task r that is then not complete
--   jobs_by a d p           == the jobs whose deadline is within a ticks; due_after d p a is the first deadline behind a
--   lapse_at c p g a        == of a row with a cost below its period that is given every tick from a on: which arrival finds its work done
--   lapse_tick c p g a      == the first tick from a on at which it is then not owed work; heavy_lapse far a c p g for any other cost
--   wait_of far a r g       == the first tick from a on at which row r waits
--   lapse_of far a c p g    == the first tick from a on at which a row that is given every tick is not owed work
--   rest_of far r g         == the first deadline that is not met, of a task that rests; run_of far a r g of one that runs
--   waits_of, lates_of       == the earliest over all rows, the first at place j: of handlers that wait, of tasks that are not in time
--   ticks_of far ts hs g_t g_h a w   == the first tick from a on that is not right, where all go to w
--   Outcome                == fine, or broken first at a tick
--   after x y b next       == the outcome of a piece to b, right up to tick x and in time before y, and of what comes next
--   piece_then, judge       == the outcome of a piece and what comes next, and of a list of segments
--   places_most, who_at p    == how many places rows have, and who stands at place p; place_of kind row is the place of a row
--   seg_of s                == the segment that the code holds as s
--   given_at given p        == the ticks that the row at place p was given; handler_given given j the handler at j
--   broken_at x y b         == an outcome as a number: one more than the tick, 0 where it is fine; tick_told n is the tick, where there is one
--   piece_broken, segment_broken   == that of a piece, and of a gap and the segment behind it, by the ticks given
--   Looked, ReadyHandlers, ReadyTasks, Ready   what a look at a row, at all handlers, all tasks and a piece counts on
--   Counted ts hs σ given a      given has the ticks that the schedule gave each row before a
--   Walked t h s L given a i     where a walk over the segments s has come to
use Rattle.std.specs.Prelude.{false, List, [], ◌∷◌, ◌≡◌, ℕ, zero, suc, ◌+◌, ◌-◌, ◌*◌, ◌/◌, ◌%◌, ◌≤◌, ◌<◌, min, max, ltb, length, get_or, drop, Option, Some, None}
use Rattle.demand.specs.Demands.{ceil}
use Rattle.demand.specs.Limits.{tasks_most, handlers_most, ticks_most}
use Rattle.demand.specs.Refusals.{FairRow, InRange}
use Rattle.demand.specs.Rows.{Row, tasks_of, handlers_of, row_at, Each, Valid}
use Rattle.demand.specs.Tests.{pick}
use Rattle.segments.specs.Given.{Who, nobody, task, handler, to_task, task_ticks, handler_ticks}
use Rattle.segments.specs.Promise.{disordered}
use Rattle.segments.specs.Segments.{Seg, who_of, segment_width, segments_of, at, Agrees}
use Rattle.segments.specs.declared.segment.Segment.{Segment}

abbrev pub cond : ℕ → ℕ → ℕ → ℕ
cond zero u v = u
cond (suc n) u v = v

-- ---- one row

abbrev pub wait_tick : Row → ℕ → ℕ
wait_tick r g = g / r.cost * r.period

abbrev pub late_clock : Row → ℕ → ℕ
late_clock r g = g / r.cost * r.period + r.deadline

abbrev pub jobs_by : ℕ → ℕ → ℕ → ℕ
jobs_by a d p = (a + (p - d)) / p

abbrev pub due_after : ℕ → ℕ → ℕ → ℕ
due_after d p a = jobs_by a d p * p + d

abbrev pub lapse_at : ℕ → ℕ → ℕ → ℕ → ℕ
lapse_at c p g a = max (ceil (suc a) p) (suc ((a - g) / (p - c)))

abbrev pub lapse_tick : ℕ → ℕ → ℕ → ℕ → ℕ
lapse_tick c p g a = a + (c * lapse_at c p g a - g)

abbrev pub wait_of : ℕ → ℕ → Row → ℕ → ℕ
wait_of far a r g = cond r.cost far (max a (wait_tick r g))

-- Where the cost is at least the period, work that lasts to the next arrival lasts for ever.
abbrev pub heavy_lapse : ℕ → ℕ → ℕ → ℕ → ℕ → ℕ
heavy_lapse far a c p g = cond (ceil (suc a) p * p + g - (a + c * ceil (suc a) p)) far (a + (c * ceil (suc a) p - g))

abbrev pub lapse_of : ℕ → ℕ → ℕ → ℕ → ℕ → ℕ
lapse_of far a c p g = cond p a (cond (p - c) (heavy_lapse far a c p g) (lapse_tick c p g a))

abbrev pub rest_of : ℕ → Row → ℕ → ℕ
rest_of far r g = cond r.cost far (late_clock r g)

-- A task that runs and meets its first deadline behind a meets all.
abbrev pub run_of : ℕ → ℕ → Row → ℕ → ℕ
run_of far a r g =
    let due = due_after r.deadline r.period a in
    cond (r.cost * suc (jobs_by a r.deadline r.period) - (g + (due - a))) far due

-- ---- all rows

unfoldable pub waits_of : ℕ → ℕ → (ℕ → ℕ) → ℕ → List Row → ℕ
waits_of far a g j [] = far
waits_of far a g j (r ∷ rs) = min (wait_of far a r (g j)) (waits_of far a g (suc j) rs)

unfoldable pub lates_of : ℕ → ℕ → (ℕ → ℕ) → Who → ℕ → List Row → ℕ
lates_of far a g w j [] = far
lates_of far a g w j (r ∷ rs) = min (cond (to_task w j) (rest_of far r (g j)) (run_of far a r (g j))) (lates_of far a g w (suc j) rs)

abbrev pub ticks_of : ℕ → List Row → List Row → (ℕ → ℕ) → (ℕ → ℕ) → ℕ → Who → ℕ
ticks_of far ts hs g_t g_h a nobody = waits_of far a g_h 0 hs
ticks_of far ts hs g_t g_h a (task i) = min (waits_of far a g_h 0 hs) (lapse_of far a (row_at ts i).cost (row_at ts i).period (g_t i))
ticks_of far ts hs g_t g_h a (handler j) = lapse_of far a (row_at hs j).cost (row_at hs j).period (g_h j)

-- ---- all pieces

pub data Outcome : Type 0 where
  fine : Outcome
  broken : ℕ → Outcome

abbrev pub cond_o : ℕ → Outcome → Outcome → Outcome
cond_o zero u v = u
cond_o (suc n) u v = v

abbrev pub after : ℕ → ℕ → ℕ → Outcome → Outcome
after x y b next = cond_o (b - x) (cond_o (suc b - y) next (broken (min x y))) (broken (min x y))

abbrev pub piece_then : List Row → List Row → (ℕ → Who) → Who → ℕ → ℕ → Outcome → Outcome
piece_then ts hs σ w a b next =
    after (ticks_of (suc b) ts hs (λ i. task_ticks σ i a) (λ j. handler_ticks σ j a) a w)
    (lates_of (suc b) a (λ i. task_ticks σ i a) w 0 ts) b next

-- From tick a on: the gap before each segment, the segment, and at last the gap to the span's end L.
unfoldable pub judge : List Row → List Row → (ℕ → Who) → ℕ → ℕ → List Seg → Outcome
judge ts hs σ L a [] = piece_then ts hs σ nobody a L fine
judge ts hs σ L a (s ∷ ss) =
    piece_then ts hs σ nobody a s.from (piece_then ts hs σ s.who s.from s.to (judge ts hs σ L s.to ss))

-- ---- what the code counts on

-- Places of rows: tasks stand at 0 and on, handlers behind the most tasks.
abbrev pub places_most : ℕ
places_most = tasks_most + handlers_most

abbrev pub who_at : ℕ → Who
who_at p = pick (ltb p tasks_most) (task p) (pick (ltb p places_most) (handler (p - tasks_most)) nobody)

abbrev pub place_of : ℕ → ℕ → ℕ
place_of zero row = row
place_of (suc kind) row = tasks_most + row

abbrev pub seg_of : Segment → Seg
seg_of s = record { who = who_of s.kind s.row; from = s.from; to = s.to }

abbrev pub given_at : List ℕ → ℕ → ℕ
given_at given p = get_or given p 0

abbrev pub handler_given : List ℕ → ℕ → ℕ
handler_given given j = given_at given (tasks_most + j)

-- One more than the tick at which a piece to b is broken first, 0 where it is fine.
abbrev pub broken_at : ℕ → ℕ → ℕ → ℕ
broken_at x y b = cond (b - x) (cond (suc b - y) 0 (suc (min x y))) (suc (min x y))

abbrev pub tick_told : ℕ → Option ℕ
tick_told zero = None
tick_told (suc z) = Some z

abbrev pub piece_broken : List Row → List Row → List ℕ → ℕ → ℕ → ℕ → ℕ
piece_broken ts hs given runner a b =
    broken_at (ticks_of (suc b) ts hs (given_at given) (handler_given given) a (who_at runner))
    (lates_of (suc b) a (given_at given) (who_at runner) 0 ts) b

-- One row that is looked at: its figures are in range, and so are its ticks and the piece's start.
pub record Looked (r : Row) (g a : ℕ) : Type 0 where
  pub fair : FairRow r
  pub given : g ≤ ticks_most
  pub start : a ≤ ticks_most

-- All handlers, or all tasks: the same of each.
pub record ReadyHandlers (h given : List ℕ) (a : ℕ) : Type 0 where
  pub fair : Each FairRow (handlers_of h)
  pub few : length (handlers_of h) ≤ handlers_most
  pub counts : (p : ℕ) → given_at given p ≤ ticks_most
  pub start : a ≤ ticks_most

pub record ReadyTasks (t given : List ℕ) (a : ℕ) : Type 0 where
  pub fair : Each FairRow (tasks_of t)
  pub valid : Valid (tasks_of t)
  pub few : length (tasks_of t) ≤ tasks_most
  pub counts : (p : ℕ) → given_at given p ≤ ticks_most
  pub start : a ≤ ticks_most

-- All rows of a table, and the row that runs is one of them, or nobody.
pub record Ready (t h given : List ℕ) (runner a : ℕ) : Type 0 where
  pub range : InRange (tasks_of t) (handlers_of h)
  pub counts : (p : ℕ) → given_at given p ≤ ticks_most
  pub task : runner < tasks_most → runner < length (tasks_of t)
  pub handler : tasks_most ≤ runner → runner < places_most → runner - tasks_most < length (handlers_of h)
  pub start : a ≤ ticks_most

-- Two pieces: the gap from a to a segment, and the segment, whose row stands at place p.
abbrev pub segment_broken : List Row → List Row → List ℕ → ℕ → ℕ → ℕ → ℕ → ℕ
segment_broken ts hs given p a from to =
    cond (piece_broken ts hs given places_most a from) (piece_broken ts hs given p from to) (piece_broken ts hs given places_most a from)

-- The ticks that each row was given before tick a, as the schedule gives them.
pub record Counted (ts hs : List Row) (σ : ℕ → Who) (given : List ℕ) (a : ℕ) : Type 0 where
  pub tasks : (m : ℕ) → m < length ts → given_at given m ≡ task_ticks σ m a
  pub handlers : (m : ℕ) → m < length hs → handler_given given m ≡ handler_ticks σ m a
  pub most : (p : ℕ) → given_at given p ≤ a

-- Where a walk over the segments s has come to: tick a and the number at i, with the ticks that each row was given.
pub record Walked (t h s : List ℕ) (L : ℕ) (given : List ℕ) (a i : ℕ) : Type 0 where
  pub same :
      judge (tasks_of t) (handlers_of h) (at (segments_of s)) L a (segments_of (drop i s))
      ≡ judge (tasks_of t) (handlers_of h) (at (segments_of s)) L 0 (segments_of s)
  pub ordered : disordered (length (tasks_of t)) (length (handlers_of h)) L a (segments_of (drop i s)) ≡ false
  pub agrees : Agrees (at (segments_of s)) (segments_of (drop i s)) a L
  pub whole : (length s - i) % segment_width ≡ 0
  pub within : i ≤ length s
  pub places : length given ≡ places_most
  pub counted : Counted (tasks_of t) (handlers_of h) (at (segments_of s)) given a
  pub clock : a ≤ L
