use native.Mathlib.Omega.{arith}
use Prim.Native.Nat.{◌+◌, ◌*◌}
use Rattle.segments.proofs.Looks.Stretches.{told-else}
use Rattle.segments.proofs.Refusals.{answered}
use Rattle.segments.proofs.Walks.Turns.{start, end-ready, end-says, row-few}
use Rattle.segments.proofs.Walks.Turns.{place_in, turn-ready, turn-grows, turn-says-broken, turn-goes}
use Rattle.segments.proofs.Walks.Steps.{segment-left, zeros}
use Rattle.segments.proofs.judged.Goals as goal

pub loop-k-init : goal.loop-k-init
unfolding zeros
loop-k-init c = start _ _ _ _ c.requires

pub at-next-requires : goal.at-next-requires
at-next-requires c =
    segment-left _ _ _ _ (answered _ _ _ _ c.requires) _ _ _ c.loop-k.invariant (omega arith)

pub place-place-requires : goal.place-place-requires
place-place-requires c =
    row-few _ _ _ _ c.requires _ _ _ c.loop-k.invariant c.at-next.result c.at-next.ensures

pub over-requires : goal.over-requires
over-requires c =
    turn-ready _ _ _ _ c.requires _ _ _ c.loop-k.invariant c.at-next.result
    c.at-next.ensures _ c.place-place.ensures

pub offset_bounds-given-place : goal.offset_bounds-given-place
offset_bounds-given-place c =
    omega (
      arith,
      place_in _ _ _ _ c.requires _ _ _ c.loop-k.invariant
          c.at-next.result
          c.at-next.ensures _ c.place-place.ensures,
    )

pub bounds-given-place : goal.bounds-given-place
bounds-given-place c =
    omega (
      arith,
      place_in _ _ _ _ c.requires _ _ _ c.loop-k.invariant
          c.at-next.result
          c.at-next.ensures _ c.place-place.ensures,
    )

pub overflow_sub-given : goal.overflow_sub-given
overflow_sub-given c =
    let grows = turn-grows _ _ _ _ c.requires _ _ _ c.loop-k.invariant
    c.at-next.result c.at-next.ensures _
    c.place-place.ensures in
    grows.0

pub overflow_add-given : goal.overflow_add-given
overflow_add-given c =
    let grows = turn-grows _ _ _ _ c.requires _ _ _ c.loop-k.invariant
    c.at-next.result c.at-next.ensures _
    c.place-place.ensures in
    omega (arith, grows.1)

pub returns-in-Some : goal.returns-in-Some
returns-in-Some c =
    turn-says-broken _ _ _ _ c.requires _ _ _ c.loop-k.invariant c.at-next.result c.at-next.ensures _ c.place-place.ensures _ c.in-Some.ensures

pub bounds-given-place-in-loop-k : goal.bounds-given-place-in-loop-k
bounds-given-place-in-loop-k c =
    omega (arith, place_in _ _ _ _ c.requires _ _ _ c.loop-k.invariant c.at-next.result c.at-next.ensures _ c.place-place.ensures)

pub loop-k-preserved : goal.loop-k-preserved
loop-k-preserved c =
    let here = c.loop-k in
    turn-goes _ _ _ _ c.requires _ _ _ here.invariant c.at-next.result c.at-next.ensures _ c.place-place.ensures (4 * (here.k + 1)) (omega arith) (omega arith)
    (told-else _ _ c.over.ensures c.in_default.not-Some)

pub broken-requires : goal.broken-requires
broken-requires c = end-ready _ _ _ _ c.requires _ _ _ c.loop-k.invariant

pub returns : goal.returns
returns c = end-says _ _ _ _ c.requires _ _ _ c.loop-k.invariant (omega arith) _ c.broken.ensures
