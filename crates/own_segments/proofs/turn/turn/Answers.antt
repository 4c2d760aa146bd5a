use Rattle.own_segments.proofs.Runs.{piece-turned}
use Rattle.own_segments.proofs.turn.turn.Goals as goal

pub returns-else-most-eq0 : goal.returns-else-most-eq0
returns-else-most-eq0 c =
    let gap = c.gap-most.ensures in
    piece-turned _ _ c.requires.table _ _ gap.1 _ _ _ c.requires gap.0 c.if-most-eq0.false c.next_piece.ensures
