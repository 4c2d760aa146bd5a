use mathlib.Core.Path.{sym}
use Rattle.trim.proofs.Lowered.{judged-by, readable-answered}
use Rattle.trim.proofs.Repriced.{with-length, readable-with}
use Rattle.trim.proofs.search.fits_with.Goals as goal

pub slice_bounds-verdict-end : goal.slice_bounds-verdict-end
slice_bounds-verdict-end c = rw c.with_cost-all.ensures (sym (with-length _ _ _))

pub returns-in-Ok : goal.returns-in-Ok
returns-in-Ok c = let told = rw c.with_cost-all.ensures at c.in-Ok.ensures in judged-by _ _ _ _ told c.is_fits.ensures

pub returns-in-Err : goal.returns-in-Err
returns-in-Err c =
    let told = rw c.with_cost-all.ensures at c.in-Err.ensures in
    absurd (readable-answered _ _ _ (readable-with _ _ _ _ c.requires.readable c.requires.fair) told)
