use Rattle.schedule_file.proofs.Inside.Builds.{Stands}
use Rattle.schedule_file.proofs.reader.read.Given as goal

abbrev pub invariant-loop-b : goal.invariant-loop-b
invariant-loop-b l = Stands l.bytes l.n l.numbers l.st l.b-index
