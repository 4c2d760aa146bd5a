use native.Mathlib.Omega.{arith}
use Rattle.demand.proofs.Inside.Arrivals.{begun-level, begun-handled}
use Rattle.demand.proofs.Inside.Events.{handlers-placeable}
use Rattle.demand.proofs.walked.Goals as goal

pub begin-k-requires : goal.begin-k-requires
begin-k-requires c =
    handlers-placeable c.args.handlers.now 16 c.requires.0.rows c.requires.1 (omega arith)

pub to-end-requires : goal.to-end-requires
to-end-requires c =
    let begun = c.begin-k in
    begun-level _ 16 begun.result begun.new.q begun.auto.q begun.ensures.1 _ c.start.ensures _ c.requires.0

pub returns : goal.returns
returns c =
    let begun = c.begin-k in
    begun-handled _ 16 begun.result begun.new.q begun.auto.q begun.ensures.1 _ c.start.ensures _ c.requires.0 _ _ c.to-end.ensures
