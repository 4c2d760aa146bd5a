use Rattle.demand.specs.Rows.{handlers_of}
use Rattle.segments.specs.Inside.{handler_given}
use Rattle.segments.proofs.Looks.Scans.{WaitsSoFar}
use Rattle.segments.proofs.scan.waits.Given as goal

abbrev pub invariant-loop-j : goal.invariant-loop-j
invariant-loop-j l = WaitsSoFar l.far l.a (handler_given l.given) (handlers_of l.handlers) l.j l.first
