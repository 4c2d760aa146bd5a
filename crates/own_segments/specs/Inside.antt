-- What no promise cites: how the code goes about it.
--   Rests r n d           row r does not arrive at the d ticks from n on; Quiet t h n d: no row of the table does
--   Turning .., Turned .. before a turn from a clock, and after it: so many ticks on, all of which went to one
--   same_ran a b           == they are the same row, or both nobody
--   put_in .. room         == the list with one segment more behind so many, where there is room
--   closed_count, closed_out, moved_pen, moved_out   == what closing and moving the pen make of it and of the list
--   Holds room pen out d  the pen and the list hold the drawing d, as far as there is room
--   Started, DrawnTo      before and after all segments are drawn
use Rattle.std.specs.Prelude.{Bool, true, false, List, ◌≡◌, ℕ, ◌+◌, ◌*◌, ◌≤◌, ◌<◌, eqb, ltb, length, set, replicate}
use Rattle.advance.specs.declared.Piece.{Piece}
use Rattle.demand.specs.Limits.{ticks_most}
use Rattle.demand.specs.Refusals.{table_refusal}
use Rattle.demand.specs.Rows.{Row, row_at}
use Rattle.demand.specs.Tests.{pick}
use Rattle.guarantees.specs.Patterns.{rows_in}
use Rattle.guarantees.specs.Synchronous.{sync_run}
use Rattle.machine.specs.Schedules.{beat}
use Rattle.own_segments.specs.Drawn.{Drawing, numbers_of}
use Rattle.own_segments.specs.Own.{own, who_ran, Ending}
use Rattle.own_segments.specs.Promise.{room_in, own_segments}
use Rattle.own_segments.specs.declared.Drawn.{Drawn}
use Rattle.own_segments.specs.declared.pen.Pen.{Pen}
use Rattle.scheduler.specs.Start.{padded}
use Rattle.scheduler.specs.declared.Ran.{Ran}
use Rattle.scheduler.specs.declared.Ran.TheVariants.{Handler, Task, Idle}
use Rattle.scheduler.specs.declared.Run.{Run}
use Rattle.segments.specs.Segments.{segment_width}

-- ---- arrivals

abbrev pub Rests : Row → ℕ → ℕ → Type 0
Rests r n d = (i : ℕ) → i < d → beat (n + i) r ≡ 0

-- of the first k rows
abbrev pub QuietTo : List ℕ → List ℕ → ℕ → ℕ → ℕ → Type 0
QuietTo t h n d k = (j : ℕ) → j < k → Rests (row_at (rows_in t h) j) n d

abbrev pub Quiet : List ℕ → List ℕ → ℕ → ℕ → Type 0
Quiet t h n d = QuietTo t h n d (length (rows_in t h))

-- ---- a turn

pub record Turning (t h : List ℕ) (run : Run) (clock span : ℕ) : Type 0 where
  pub table : table_refusal t h ≡ 0
  pub run_is : run ≡ sync_run t h clock
  pub going : (n : ℕ) → n ≤ clock → (sync_run t h n).over ≡ false
  pub before : clock < span
  pub soon : span ≤ ticks_most

pub record Turned (t h : List ℕ) (clock span : ℕ) (p : Piece) : Type 0 where
  pub some : 0 < p.ticks
  pub within : clock + p.ticks ≤ span
  pub run_is : p.run ≡ sync_run t h (clock + p.ticks)
  pub going : (n : ℕ) → n < clock + p.ticks → (sync_run t h n).over ≡ false
  pub alone : (i : ℕ) → i < p.ticks → own t h (clock + i) ≡ who_ran p.ran

-- ---- the pen

abbrev pub same_ran : Ran → Ran → Bool
same_ran (Handler i) (Handler j) = eqb i j
same_ran (Handler i) (Task j) = false
same_ran (Handler i) Idle = false
same_ran (Task i) (Handler j) = false
same_ran (Task i) (Task j) = eqb i j
same_ran (Task i) Idle = false
same_ran Idle (Handler j) = false
same_ran Idle (Task j) = false
same_ran Idle Idle = true

abbrev pub put_at : List ℕ → ℕ → ℕ → ℕ → ℕ → ℕ → List ℕ
put_at out k kind row from to = set (set (set (set out k kind) (k + 1) row) (k + 2) from) (k + 3) to

abbrev pub put_in : List ℕ → ℕ → ℕ → ℕ → ℕ → ℕ → ℕ → List ℕ
put_in out count kind row from to room = pick (ltb count room) (put_at out (segment_width * count) kind row from to) out

abbrev pub count_by : Ran → ℕ → ℕ
count_by (Handler i) count = count + 1
count_by (Task i) count = count + 1
count_by Idle count = count

abbrev pub closed_count : Pen → ℕ
closed_count pen = count_by pen.ran pen.count

abbrev pub out_by : Ran → List ℕ → ℕ → ℕ → ℕ → ℕ → List ℕ
out_by (Handler i) out count from tick room = put_in out count 1 i from tick room
out_by (Task i) out count from tick room = put_in out count 0 i from tick room
out_by Idle out count from tick room = out

abbrev pub closed_out : List ℕ → Pen → ℕ → ℕ → List ℕ
closed_out out pen tick room = out_by pen.ran out pen.count pen.from tick room

abbrev pub moved_pen : Pen → Ran → ℕ → Pen
moved_pen pen ran tick = pick (same_ran pen.ran ran) pen (record { ran = ran; from = tick; count = closed_count pen })

abbrev pub moved_out : List ℕ → Pen → Ran → ℕ → ℕ → List ℕ
moved_out out pen ran tick room = pick (same_ran pen.ran ran) out (closed_out out pen tick room)

pub record Holds (room n : ℕ) (pen : Pen) (out : List ℕ) (d : Drawing) : Type 0 where
  pub who : who_ran pen.ran ≡ d.who
  pub from : pen.from ≡ d.from
  pub count : pen.count ≡ length d.done
  pub laid : pen.count ≤ room → out ≡ padded n (numbers_of d.done)
  pub long : length out ≡ n

-- ---- all segments

pub record Started (t h : List ℕ) (run : Run) (span room : ℕ) (out : List ℕ) : Type 0 where
  pub table : table_refusal t h ≡ 0
  pub run_is : run ≡ sync_run t h 0
  pub some : 0 < span
  pub soon : span ≤ ticks_most
  pub room-is : room ≡ room_in (length out)
  pub clear : out ≡ replicate (length out) 0

pub record DrawnTo (t h : List ℕ) (span room : ℕ) (old new : List ℕ) (d : Drawn) : Type 0 where
  pub long : length new ≡ length old
  pub many : room < d.count → room < length (own_segments t h span)
  pub count : d.count ≤ room → d.count ≡ length (own_segments t h span)
  pub laid : d.count ≤ room → new ≡ padded (length old) (numbers_of (own_segments t h span))
  pub ending : d.count ≤ room → Ending t h span d.end
