use native.Mathlib.Omega.{arith}
use Rattle.own_segments.specs.Promise.{room_in}
use Rattle.own_segments.proofs.pen.room.Goals as goal

pub returns : goal.returns
returns c = unfold room_in in omega (arith, c.min.ensures)
