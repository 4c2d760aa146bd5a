use mathlib.Core.Path.{ap}
use native.Mathlib.Omega.{arith}
use Prim.Native.Nat.{ℕ, ◌*◌}
use Rattle.demand.proofs.Inside.Places.{row_fits, row_read}
use Rattle.demand.proofs.Inside.Slices.{from-length}
use Rattle.demand.proofs.table.row_at.Goals as goal

pub overflow_mul-width : goal.overflow_mul-width
overflow_mul-width c =
    let fits = row_fits c.args.kind c.args.s.now c.args.i (omega (arith, c.if-i-count.true, c.count.ensures)) in
    omega (arith, fits, ap (λ (n : ℕ). n * c.args.i) c.width.ensures)

pub offset_bounds-s-width : goal.offset_bounds-s-width
offset_bounds-s-width c =
    let fits = row_fits c.args.kind c.args.s.now c.args.i (omega (arith, c.if-i-count.true, c.count.ensures)) in
    omega (arith, fits, ap (λ (n : ℕ). n * c.args.i) c.width.ensures)

pub slice_bounds-head-count : goal.slice_bounds-head-count
slice_bounds-head-count c =
    let fits = row_fits c.args.kind c.args.s.now c.args.i (omega (arith, c.if-i-count.true, c.count.ensures)) in
    omega (arith, fits, ap (λ (n : ℕ). n * c.args.i) c.width.ensures)

pub slice_bounds-head-start : goal.slice_bounds-head-start
slice_bounds-head-start c =
    let fits = row_fits c.args.kind c.args.s.now c.args.i (omega (arith, c.if-i-count.true, c.count.ensures)) in
    omega (arith, fits, ap (λ (n : ℕ). n * c.args.i) c.width.ensures)

pub head-requires : goal.head-requires
head-requires c =
    let w = c.width in
    let fits = row_fits c.args.kind c.args.s.now c.args.i (omega (arith, c.if-i-count.true, c.count.ensures)) in
    omega (arith, from-length (w.result * c.args.i) c.args.s.now, fits, ap (λ (n : ℕ). n * c.args.i) w.ensures)

pub returns-then-i-count : goal.returns-then-i-count
returns-then-i-count c = row_read c.args.kind c.args.s.now _ c.args.i _ _ (ap (λ (n : ℕ). n * c.args.i) c.width.ensures) c.head.ensures
