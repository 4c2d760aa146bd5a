use mathlib.Core.Path.{refl, sym, ◌∙◌}
use lib.Seq.{take-append_seam, take-length}
use Rattle.trim.proofs.Copies.{copy-with}
use Rattle.trim.proofs.costs.with_cost.Goals as goal

pub returns : goal.returns
returns c =
    let tasks = c.args.tasks.now in
    rw (c.place_of.ensures, c.copy_from_slice.ensures.after) (copy-with _ tasks _ c.args.row c.args.cost refl c.requires.place (take-append_seam tasks _ ∙ sym (take-length tasks)))
