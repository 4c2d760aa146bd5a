use Prim.Native.Nat.{◌+◌, ◌*◌, ◌≤◌}
use lib.ListN.{length, set}
use lib.Seq.{lt-length-set}
use native.Mathlib.Omega.{arith}
use borrow.Author.Tests.{lt-ltb, le-ltb}
use Rattle.own_segments.proofs.Pens.{room-numbers, room_most}
use Rattle.own_segments.proofs.pen.put.Goals as goal

pub overflow_mul-k : goal.overflow_mul-k
overflow_mul-k c = let fits = c.requires in omega (arith, room-numbers _ _ fits, room_most _ _ fits)

pub offset_bounds-out-k : goal.offset_bounds-out-k
offset_bounds-out-k c = let fits = c.requires in omega (arith, room-numbers _ _ fits, room_most _ _ fits)

pub bounds-out-k : goal.bounds-out-k
bounds-out-k c = let fits = c.requires in omega (arith, room-numbers _ _ fits, room_most _ _ fits)

pub overflow_add-out : goal.overflow_add-out
overflow_add-out c = let fits = c.requires in omega (arith, room-numbers _ _ fits, room_most _ _ fits)

pub offset_bounds-out-k-then-count-room : goal.offset_bounds-out-k-then-count-room
offset_bounds-out-k-then-count-room c = let fits = c.requires in omega (arith, room-numbers _ _ fits, room_most _ _ fits)

pub bounds-out-k-then-count-room : goal.bounds-out-k-then-count-room
bounds-out-k-then-count-room c =
    let x = c.args in
    let fits = c.requires in
    let room : 4 * x.count + 4 ≤ length x.out.now = omega (arith, room-numbers _ _ fits) in
    lt-length-set x.out.now (4 * x.count) x.kind {i = 4 * x.count + 1} (omega arith)

pub overflow_add-out-then-count-room : goal.overflow_add-out-then-count-room
overflow_add-out-then-count-room c = let fits = c.requires in omega (arith, room-numbers _ _ fits, room_most _ _ fits)

pub offset_bounds-out-k-then-count-room-2 : goal.offset_bounds-out-k-then-count-room-2
offset_bounds-out-k-then-count-room-2 c = let fits = c.requires in omega (arith, room-numbers _ _ fits, room_most _ _ fits)

pub bounds-out-k-then-count-room-2 : goal.bounds-out-k-then-count-room-2
bounds-out-k-then-count-room-2 c =
    let x = c.args in
    let fits = c.requires in
    let room : 4 * x.count + 4 ≤ length x.out.now = omega (arith, room-numbers _ _ fits) in
    lt-length-set (set x.out.now (4 * x.count) x.kind) (4 * x.count + 1) x.row {i = 4 * x.count + 2}
    (lt-length-set x.out.now (4 * x.count) x.kind {i = 4 * x.count + 2} (omega arith))

pub overflow_add-out-then-count-room-2 : goal.overflow_add-out-then-count-room-2
overflow_add-out-then-count-room-2 c = let fits = c.requires in omega (arith, room-numbers _ _ fits, room_most _ _ fits)

pub offset_bounds-out-k-then-count-room-3 : goal.offset_bounds-out-k-then-count-room-3
offset_bounds-out-k-then-count-room-3 c = let fits = c.requires in omega (arith, room-numbers _ _ fits, room_most _ _ fits)

pub bounds-out-k-then-count-room-3 : goal.bounds-out-k-then-count-room-3
bounds-out-k-then-count-room-3 c =
    let x = c.args in
    let fits = c.requires in
    let room : 4 * x.count + 4 ≤ length x.out.now = omega (arith, room-numbers _ _ fits) in
    lt-length-set (set (set x.out.now (4 * x.count) x.kind) (4 * x.count + 1) x.row) (4 * x.count + 2)
    x.from {i = 4 * x.count + 3}
    (lt-length-set (set x.out.now (4 * x.count) x.kind) (4 * x.count + 1) x.row {i = 4 * x.count + 3}
    (lt-length-set x.out.now (4 * x.count) x.kind {i = 4 * x.count + 3} (omega arith)))

pub returns-then-count-room : goal.returns-then-count-room
returns-then-count-room c = rw (lt-ltb _ _ c.if-count-room.true)

pub returns-else-count-room : goal.returns-else-count-room
returns-else-count-room c = rw (le-ltb c.args.count c.args.room (omega arith))
