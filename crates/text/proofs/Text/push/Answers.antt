use Rattle.demand.proofs.Padded.{padded-next}
use Rattle.text.specs.Text.{text_most}
use Rattle.text.proofs.Text.push.Goals as goal

pub invariant_of-self : goal.invariant_of-self
invariant_of-self c = padded-next text_most c.self.inside.len c.self.inside.bytes _ c.args.b c.self.invariant c.self.view_is c.requires
