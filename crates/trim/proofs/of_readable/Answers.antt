use native.Mathlib.Omega.{arith}
use Rattle.trim.proofs.Answers.{row-placed, says-18, says-kept, says_none, can-search, says-found}
use Rattle.trim.proofs.Lowered.{told-fits, told-misses}
use Rattle.trim.proofs.of_readable.Goals as goal

pub returns-then-count-row : goal.returns-then-count-row
returns-then-count-row c =
    says-18 c.args.tasks.now c.args.handlers.now c.args.row c.requires.readable (omega (arith, c.count.ensures))

pub present-old-requires : goal.present-old-requires
present-old-requires c =
    row-placed c.args.tasks.now c.args.handlers.now c.args.row c.requires.readable (omega (arith, c.count.ensures))

pub returns-then-fits : goal.returns-then-fits
returns-then-fits c =
    says-kept _ _ _ c.requires.readable (omega (arith, c.count.ensures)) _ c.present-old.ensures
    (told-fits c.requires c.if-fits.true)

pub fits_with-requires : goal.fits_with-requires
fits_with-requires c =
    record {
      readable = c.requires.readable;
      placed = row-placed _ _ _ c.requires.readable (omega (arith, c.count.ensures));
      fair = record { least = omega arith; most = omega arith };
    }

pub returns-then-not-fits_with : goal.returns-then-not-fits_with
returns-then-not-fits_with c =
    says_none _ _ _ c.requires.readable (omega (arith, c.count.ensures)) _ c.present-old.ensures
    (told-misses c.fits_with.ensures (c.if-not-fits_with.true))

pub greatest-found-requires : goal.greatest-found-requires
greatest-found-requires c =
    can-search _ _ _ c.requires.readable (omega (arith, c.count.ensures)) _ c.present-old.ensures
    (told-misses c.requires c.if-fits.false)
    (told-fits c.fits_with.ensures (c.if-not-fits_with.false))

pub returns : goal.returns
returns c =
    says-found _ _ _ c.requires.readable (omega (arith, c.count.ensures)) _ c.present-old.ensures _ c.greatest-found.ensures
