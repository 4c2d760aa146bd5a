use mathlib.Core.Path.{refl}
use native.Mathlib.Omega.{arith}
use Rattle.trim.proofs.Halving.{search-start, turn_up, turn-down, search-end}
use Rattle.trim.proofs.search.greatest.Goals as goal
use Rattle.trim.proofs.search.greatest.Goals.{then-fits_with, else-fits_with}

pub loop-low-init : goal.loop-low-init
loop-low-init c = search-start _ _ _ _ c.requires

pub fits_with-requires : goal.fits_with-requires
fits_with-requires c =
    let can = c.requires in
    record { readable = can.readable; placed = can.placed; fair = record { least = omega arith; most = omega arith } }

pub loop-low-smaller : goal.loop-low-smaller
loop-low-smaller c =
    elim c.if-fits_with.branch [ then-fits_with w ↦ omega arith | else-fits_with w ↦ omega arith ]

pub loop-low-preserved : goal.loop-low-preserved
loop-low-preserved c =
    let here = c.loop-low in
    let told = c.fits_with.ensures in
    elim c.if-fits_with.branch [
      | then-fits_with w ↦ turn_up _ _ _ _ _ _ _ here.invariant (omega arith) _ _ _ told w.if-fits_with.true w.low-is w.high-is
      | else-fits_with w ↦ turn-down _ _ _ _ _ _ _ here.invariant (omega arith) _ _ _ told w.if-fits_with.false w.low-is w.high-is
    ]

pub returns : goal.returns
returns c = search-end _ _ _ _ _ _ _ c.loop-low.invariant _ refl refl (omega arith)
