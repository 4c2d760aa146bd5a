use Rattle.schedule_file.proofs.Inside.Builds.{push-stored}
use Rattle.schedule_file.proofs.reader.push.Goals as goal

pub returns-then-n-lt-SEGMENTS_MOST : goal.returns-then-n-lt-SEGMENTS_MOST
returns-then-n-lt-SEGMENTS_MOST c =
    let x = c.args in
    λ es built. push-stored x.n x.numbers.now es built x.kind x.row x.from x.to c.if-n-lt-SEGMENTS_MOST.true _
    c.kind_number.ensures
