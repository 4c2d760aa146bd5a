use Rattle.trim_file.specs.Inside.{added}
use Rattle.trim_file.proofs.write.add.Goals as goal

pub returns : goal.returns
unfolding added
returns c = λ i. record { bytes = c.lay-len.ensures.1 i; len = c.lay-len.ensures.0 i }
