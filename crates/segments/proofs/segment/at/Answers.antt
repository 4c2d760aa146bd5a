use mathlib.Core.Path.{refl}
use Rattle.segments.proofs.Walks.Lent.{segment-read}
use Rattle.segments.proofs.segment.at.Goals as goal

pub returns : goal.returns
returns c =
    segment-read c.args.s.now c.args.i _ _ _ _ c.requires refl refl refl refl
