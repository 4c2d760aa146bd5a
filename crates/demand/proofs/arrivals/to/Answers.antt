use Rattle.std.proofs.Common.{rules}
use Rattle.walk.proofs.Queue.{ahead-nil}
use Rattle.demand.proofs.Inside.Arrivals.{come-waited}
use Rattle.demand.proofs.arrivals.to.Goals as goal

pub returns-then-is_empty : goal.returns-then-is_empty
returns-then-is_empty c =
    come-waited _ _ _ c.requires _ (ahead-nil c.args.q.now c.args.m (search rules)) c.wait.ensures
