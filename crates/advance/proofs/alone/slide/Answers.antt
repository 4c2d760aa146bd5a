use Rattle.advance.specs.Inside.Alone.{slid}
use Rattle.advance.proofs.alone.slide.Goals as goal

pub returns : goal.returns
returns c = unfold slid in rw (← c.pay_by.ensures)
