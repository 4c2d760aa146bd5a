use Rattle.schedule_file.proofs.Inside.Builds.{finished-few}
use Rattle.schedule_file.proofs.reader.finished.Goals as goal

pub returns : goal.returns
returns c =
    let x = c.args in
    λ ns es built. finished-few x.n ns es built c.if-n-gt-SEGMENTS_MOST.false
